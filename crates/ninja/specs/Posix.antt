-- Defines which characters and words a POSIX shell reads as themselves (POSIX, Shell Command Language, "Quoting", "Reserved Words", "Simple
-- Commands").
use Prim.Native.Char.{code}
use Rattle.std.specs.Prelude.{ℕ, Bool, false, ◌==◌, ◌||◌, ◌&&◌, not, List, [], ◌∷◌, codes}
use Rattle.std.specs.Char.{is_ascii_graphic}
use Rattle.std.specs.List.{list_any}
use Rattle.ninja.specs.Bytes.{is_one_of}

-- Returns whether a byte is one of these.
abbrev pub stands_in : List ℕ → ℕ → Bool
stands_in [] b = false
stands_in (c ∷ cs) b = (b == c) || stands_in cs b

-- Returns whether the byte has to be quoted to represent itself. Blanks and the newline have to be quoted too.
abbrev pub has_meaning : ℕ → Bool
has_meaning b = stands_in (codes "|&;<>()$`\\\"'") b

-- Returns whether the byte has a meaning in some places: in patterns, at the beginning of a word, in braces.
abbrev pub may_have_meaning : ℕ → Bool
may_have_meaning b = stands_in (codes "*?[]^!#~{}") b

-- Returns whether the byte is a visible character of ASCII.
abbrev pub is_visible : ℕ → Bool
is_visible b = is_ascii_graphic b

-- Returns whether the byte is always itself outside quotes.
abbrev pub is_literal : ℕ → Bool
is_literal b = is_visible b && not (has_meaning b || may_have_meaning b)

-- Lists the reserved words of the shell.
abbrev pub reserved_words : List (List ℕ)
reserved_words =
    codes "!" ∷ codes "{" ∷ codes "}" ∷ codes "case" ∷ codes "do" ∷ codes "done" ∷ codes "elif" ∷ codes "else" ∷ codes "esac" ∷ codes "fi"
    ∷ codes "for" ∷ codes "if" ∷ codes "in" ∷ codes "then" ∷ codes "until" ∷ codes "while" ∷ []

-- Returns whether a word is one of the shell's reserved words.
abbrev pub is_reserved_word : List ℕ → Bool
is_reserved_word word = is_one_of reserved_words word

-- Returns whether a word with these unquoted bytes may be an assignment before the command's name: it has an `=`.
abbrev pub may_assign : List ℕ → Bool
may_assign unquoted = list_any (λ b. b == code "=") unquoted

-- Returns whether a first word with these unquoted bytes may be something other than a command's name.
abbrev pub is_no_command_name : List ℕ → Bool
is_no_command_name unquoted = may_assign unquoted || is_reserved_word unquoted
