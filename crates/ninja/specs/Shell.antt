-- Defines which words are written without quotes.
use Prim.Native.Char.{code}
use Rattle.std.specs.Prelude.{ℕ, Bool, ◌==◌, ◌||◌, List, [], ◌∷◌, codes}
use Rattle.std.specs.Char.{is_ascii_alphanumeric}
use Rattle.std.specs.List.{list_any}
use Rattle.ninja.specs.Bytes.{is_one_of}

-- Returns whether the byte is one of `A-Z a-z 0-9 _ @ % + = : , . / -`.
abbrev pub is_bare_byte : ℕ → Bool
is_bare_byte b = is_ascii_alphanumeric b || list_any (λ sign. b == sign) (codes "_@%+=:,./-")

-- Returns whether a word has an equals sign.
abbrev pub has_equals : List ℕ → Bool
has_equals bytes = list_any (λ b. b == code "=") bytes

-- Returns whether a word of letters is a reserved word of the shell.
abbrev pub is_reserved : List ℕ → Bool
is_reserved word = is_one_of (codes "case" ∷ codes "do" ∷ codes "done" ∷ codes "elif" ∷ codes "else" ∷ codes "esac" ∷ codes "fi"
    ∷ codes "for" ∷ codes "if" ∷ codes "in" ∷ codes "then" ∷ codes "until" ∷ codes "while" ∷ []) word

-- Returns whether the word needs quotes as the first word, because a shell would read it as an assignment or as a reserved word.
abbrev pub is_no_first_word : List ℕ → Bool
is_no_first_word bare = has_equals bare || is_reserved bare
