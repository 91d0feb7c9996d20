-- Defines the text of a command that a shell reads as these words.
use Prim.Native.Char.{code}
use Rattle.std.specs.Prelude.{ℕ, Bool, false, ◌==◌, ◌&&◌, not, List, [], ◌∷◌, ◌++◌, Option, Some, None, codes, if◌then◌else◌}
use Rattle.std.specs.List.{list_all, flat_map}
use Rattle.ninja.specs.Shell.{is_bare_byte, is_no_first_word}

-- Returns whether each of the bytes needs no quotes. It is true for no bytes.
abbrev pub is_all_bare : List ℕ → Bool
is_all_bare bytes = list_all is_bare_byte bytes

-- Returns whether the word needs no quotes.
abbrev pub is_bare : List ℕ → Bool
is_bare [] = false
is_bare (b ∷ bs) = is_bare_byte b && is_all_bare bs

-- Returns the text of a byte in quotes. A quote closes the quotes, follows in quotes of the other kind, and opens them again.
abbrev pub quoted_byte : ℕ → List ℕ
quoted_byte b = if b == code "'" then codes "'\"'\"'" else b ∷ []

-- Returns the text of bytes inside single quotes, without the quotes around them.
abbrev pub quoted_bytes : List ℕ → List ℕ
quoted_bytes bytes = flat_map quoted_byte bytes

-- Returns the word in single quotes.
abbrev pub single_quoted_word : List ℕ → List ℕ
single_quoted_word word = codes "'" ++ (quoted_bytes word ++ codes "'")

-- Returns the text of a word, in quotes if it needs them.
abbrev pub word_text : List ℕ → List ℕ
word_text word = if is_bare word then word else single_quoted_word word

-- Returns the text of the first word, in quotes if it needs them there.
abbrev pub first_word_text : List ℕ → List ℕ
first_word_text word = if is_bare word && not (is_no_first_word word) then word else single_quoted_word word

-- Returns a space and the text of a word.
abbrev pub later_word_text : List ℕ → List ℕ
later_word_text word = codes " " ++ word_text word

-- Returns the text of words, each after a space.
abbrev pub later_words_text : List (List ℕ) → List ℕ
later_words_text words = flat_map later_word_text words

-- Returns ` > ` and the text of a name, if there is one.
abbrev pub redirect_text : Option (List ℕ) → List ℕ
redirect_text None = []
redirect_text (Some name) = codes " > " ++ word_text name

-- Returns a `>` and a name, with nothing before them.
abbrev pub lone_redirect_text : Option (List ℕ) → List ℕ
lone_redirect_text None = []
lone_redirect_text (Some name) = codes "> " ++ word_text name

-- Returns the words, joined by spaces, and the file that receives the output.
abbrev pub words_text : List (List ℕ) → Option (List ℕ) → List ℕ
words_text [] redirect = lone_redirect_text redirect
words_text (w ∷ ws) redirect = first_word_text w ++ (later_words_text ws ++ redirect_text redirect)
