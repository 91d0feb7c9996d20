-- Defines what the code searches in a line, for the contracts of private functions.
use Prim.Native.Char.{code}
use Rattle.std.specs.Prelude.{◌≡◌, ℕ, ◌+◌, ◌<◌, ◌≤◌, Bool, not, ◌==◌, nat_lt, List, [], ◌++◌, length, take, drop, slice_index, codes, if◌then◌else◌}
use Rattle.std.specs.List.{AllPass, prefix_len}
use Rattle.ports.specs.Outputs.{Step, puts}
use Rattle.template.specs.Config.{Entries}
use Rattle.template.specs.Line.{words_with_first, in_place, is_blank, is_name_byte, replaced_line, words}

-- Returns whether the byte belongs to a word: it is no space, no tab and no carriage return.
abbrev pub is_word_byte : ℕ → Bool
is_word_byte b = not (is_blank b)

-- The bytes begin with this word after blanks, followed by `rest`. The word is empty if they have none.
pub record IsFirstWord (bytes word rest : List ℕ) : Type 0 where
  pub cut : words bytes ≡ words_with_first word (words rest)
  pub none : length word ≡ 0 → words bytes ≡ []

-- Returns the length of the name that begins here and ends before an '@', or 0 if there is none.
unfoldable pub name_length : List ℕ → ℕ
name_length bytes = let n = prefix_len is_name_byte bytes in if slice_index bytes n == code "@" then n else 0

-- Returns the steps that an '@' and the bytes after it write, given the length of the name between it and the next '@', or 0.
unfoldable pub sign_steps : Entries → List ℕ → ℕ → ℕ → List ℕ → List Step
sign_steps entries path number name bytes =
    if nat_lt 0 name
    then in_place entries path number (take name bytes) ++ replaced_line entries path number (drop (name + 1) bytes)
    else puts (codes "@") ++ replaced_line entries path number bytes

-- The first '@' of some bytes: what is written before it, its position, and the length of the name after it.
pub record IsSign (rest : List ℕ) (text at name : ℕ) : Type 0 where
  pub text_in_range : text ≤ at
  pub at_in_range : at < length rest
  pub name_in_range : 0 < name → at + 1 + name < length rest
  pub named : AllPass is_name_byte (take name (drop (at + 1) rest))
  pub steps : (entries : Entries) (path : List ℕ) (number : ℕ) →
      replaced_line entries path number rest ≡ puts (take text rest) ++ sign_steps entries path number name (drop (at + 1) rest)

-- Bytes without an '@' are written unchanged.
pub record IsPlain (rest : List ℕ) : Type 0 where
  pub steps : (entries : Entries) (path : List ℕ) (number : ℕ) → replaced_line entries path number rest ≡ puts rest
