-- Defines what one line of a template writes.
use Prim.Native.Char.{code}
use Rattle.std.specs.Prelude.{ℕ, ◌+◌, ◌-◌, ◌/◌, ◌%◌, Bool, true, false, ◌||◌, ◌&&◌, ◌==◌, nat_eq, nat_lt, nat_le, List, [], ◌∷◌}
use Rattle.std.specs.Prelude.{◌++◌, length, take, drop, replicate, reverse, flat_map, slice_index, Option, Some, None, codes, decimal}
use Rattle.std.specs.Prelude.{if◌then◌else◌}
use Rattle.std.specs.List.{starts_with, prefix_len, list_all, slice_split}
use Rattle.std.specs.Char.{is_ascii_alphanumeric}
use Rattle.std.specs.Str.{bytes_eq}
use Rattle.support.specs.Limits.{line_bytes}
use Rattle.ports.specs.Outputs.{Step, puts, logs}
use Rattle.template.specs.Config.{Content, Flag, Number, Bytes, Entries, value_of, printed_content}

-- Returns whether the byte is valid in a name: a letter, a digit, '-' or '_'.
abbrev pub is_name_byte : ℕ → Bool
is_name_byte b = is_ascii_alphanumeric b || b == code "-" || b == code "_"

-- Returns whether the name has at least one byte, and only valid ones.
unfoldable pub is_placeholder_name : List ℕ → Bool
is_placeholder_name name = nat_lt 0 (length name) && list_all is_name_byte name

-- ---- a line of text

-- A piece of a line.
pub data Piece : Type 0 where
  -- Bytes that are written unchanged.
  Text : (bytes : List ℕ) → Piece
  -- This many backslashes directly before an `@`.
  Backslashes : (count : ℕ) → Piece
  -- An `@` that begins no name.
  Sign : Piece
  -- A name between two `@`.
  Name : (name : List ℕ) → Piece

-- Returns the number of backslashes at the end of a text.
unfoldable pub ending_backslashes : List ℕ → ℕ
ending_backslashes text = prefix_len (λ b. b == code "\\") (reverse text)

-- Returns the pieces of a text before an `@`: the bytes, and the backslashes at their end.
unfoldable pub text_pieces : List ℕ → List Piece
text_pieces text = let n = ending_backslashes text in Text (take (length text - n) text) ∷ Backslashes n ∷ []

-- Returns whether an `@` after the text begins this name: it is a valid name, and no backslash is left that escapes the `@`.
unfoldable pub begins_name : List ℕ → List ℕ → Bool
begins_name text name = ending_backslashes text % 2 == 0 && is_placeholder_name name

-- Returns the pieces of the line that has these texts between its `@`.
unfoldable pub pieces_of : List (List ℕ) → List Piece
pieces_of [] = []
pieces_of (text ∷ []) = Text text ∷ []
pieces_of (text ∷ last ∷ []) = text_pieces text ++ Sign ∷ pieces_of (last ∷ [])
pieces_of (text ∷ name ∷ next ∷ texts) =
    text_pieces text
    ++ (if begins_name text name then Name name ∷ pieces_of (next ∷ texts) else Sign ∷ pieces_of (name ∷ next ∷ texts))

-- Returns the pieces of a line.
unfoldable pub line_pieces : List ℕ → List Piece
line_pieces line = pieces_of (slice_split (λ b. b == code "@") line)

-- Returns the end of the log's line for a name without a value.
unfoldable pub no_value : List ℕ → List Step
no_value name = logs (codes ": no value for ") ++ (logs name ++ logs (codes "\n"))

-- Returns the log's line for a name without a value.
unfoldable pub warning : List ℕ → ℕ → List ℕ → List Step
warning path number name =
    logs (codes "WARNING: ") ++ (logs path ++ (logs (codes ":") ++ (logs (decimal number) ++ no_value name)))

-- Returns the steps of a value, or those of a warning if there is none.
unfoldable pub value_or_warning : Option Content → List Step → List Step
value_or_warning (Some content) warning = puts (printed_content content)
value_or_warning None warning = warning

-- Returns the steps that write a name's value in place of the name between two '@'. Without a value they write a warning to the log.
unfoldable pub in_place : Entries → List ℕ → ℕ → List ℕ → List Step
in_place entries path number name = value_or_warning (value_of entries name) (warning path number name)

-- Returns the steps of a piece. Two backslashes before an `@` are one. If one is left over, it is dropped.
unfoldable pub piece_steps : Entries → List ℕ → ℕ → Piece → List Step
piece_steps entries path number (Text bytes) = puts bytes
piece_steps entries path number (Backslashes count) = puts (replicate (count / 2) (code "\\"))
piece_steps entries path number Sign = puts (codes "@")
piece_steps entries path number (Name name) = in_place entries path number name

-- Returns the steps of a line whose names are replaced.
unfoldable pub replaced_line : Entries → List ℕ → ℕ → List ℕ → List Step
replaced_line entries path number line = flat_map (piece_steps entries path number) (line_pieces line)

-- ---- a line by its words

-- Returns whether the byte is a space, a tab or a carriage return.
abbrev pub is_blank : ℕ → Bool
is_blank b = b == code " " || b == code "\t" || b == code "\r"

-- Puts a word that ends here before the words after it, if it has any bytes.
unfoldable pub words_with_first : List ℕ → List (List ℕ) → List (List ℕ)
words_with_first [] words = words
words_with_first (b ∷ word) words = (b ∷ word) ∷ words

-- Returns the words of some bytes, given the bytes so far of the first word.
unfoldable pub words_after : List ℕ → List ℕ → List (List ℕ)
words_after word [] = words_with_first word []
words_after word (b ∷ bytes) = if is_blank b then words_with_first word (words_after [] bytes) else words_after (word ++ b ∷ []) bytes

-- Returns the words of some bytes, which blanks separate.
abbrev pub words : List ℕ → List (List ℕ)
words bytes = words_after [] bytes

-- Returns how many bytes precede a line's end: a newline, with one optional carriage return before it.
unfoldable pub body_length : List ℕ → ℕ
body_length bytes =
    let n = length bytes in
    if nat_lt 0 n && (slice_index bytes (n - 1) == code "\n") then
    (if nat_lt 1 n && (slice_index bytes (n - 2) == code "\r") then n - 2 else n - 1) else n

-- The reading of a line says whether the line defines a name.
pub data Reading : Type 0 where
  -- The first word of the line does not begin with `#mesondefine`. The names between two `@` are replaced.
  Plain : Reading
  -- The words of the line are `#mesondefine` and this valid name.
  Defines : (name : List ℕ) → Reading
  -- The first word begins with `#mesondefine`, but the words are not `#mesondefine` and one valid name.
  Malformed : Reading
  -- The line has more bytes than a line of a template may have.
  TooLong : Reading

-- Returns the name that follows the word, if the word is `#mesondefine` and exactly one name follows it.
unfoldable pub defined_in : List ℕ → List (List ℕ) → Reading
defined_in word [] = Malformed
defined_in word (name ∷ []) = if bytes_eq word (codes "#mesondefine") && is_placeholder_name name then Defines name else Malformed
defined_in word (name ∷ next ∷ others) = Malformed

-- Returns the reading of a line of these words. It defines a name if the first word begins with `#mesondefine`.
unfoldable pub reading_of : List (List ℕ) → Reading
reading_of [] = Plain
reading_of (word ∷ others) = if starts_with nat_eq word (codes "#mesondefine") then defined_in word others else Plain

-- Returns how a line is read. Its end counts for its length.
unfoldable pub reading_of_line : List ℕ → Reading
reading_of_line bytes = if nat_lt line_bytes (length bytes) then TooLong else reading_of (words (take (body_length bytes) bytes))

-- Returns the line that defines a name with a value, without its end.
unfoldable pub definition : List ℕ → Content → List Step
definition name (Flag true) = puts (codes "#define ") ++ puts name
definition name (Flag false) = puts (codes "#undef ") ++ puts name
definition name (Number z) = puts (codes "#define ") ++ (puts name ++ (puts (codes " ") ++ puts (printed_content (Number z))))
definition name (Bytes text) = puts (codes "#define ") ++ (puts name ++ (puts (codes " ") ++ puts (printed_content (Bytes text))))

-- Returns the line for `#mesondefine NAME`, without its end: the name's definition, or `/* undef NAME */` if the name has no value.
unfoldable pub definition_or_comment : List ℕ → Option Content → List Step
definition_or_comment name None = puts (codes "/* undef ") ++ (puts name ++ puts (codes " */"))
definition_or_comment name (Some content) = definition name content

-- The reasons why a line is refused.
pub data Refusal : Type 0 where
  -- The first word begins with `#mesondefine`, but the line defines no name (E19).
  BadDefine : Refusal
  -- The line is too long (E22).
  LongLine : Refusal

-- Returns why a line with this reading is refused, if it is.
unfoldable pub refusal : Reading → Option Refusal
refusal Plain = None
refusal (Defines name) = None
refusal Malformed = Some BadDefine
refusal TooLong = Some LongLine

-- Returns why a line is refused, if it is.
unfoldable pub line_fault : List ℕ → Option Refusal
line_fault bytes = refusal (reading_of_line bytes)

-- Returns the steps that a line with this reading writes, and none if the line is refused.
unfoldable pub steps_of : Entries → List ℕ → ℕ → List ℕ → Reading → List Step
steps_of entries path number bytes Plain = replaced_line entries path number bytes
steps_of entries path number bytes (Defines name) =
    definition_or_comment name (value_of entries name) ++ puts (drop (body_length bytes) bytes)
steps_of entries path number bytes Malformed = []
steps_of entries path number bytes TooLong = []

-- Returns the steps that a line writes, given the template's path and the line's number, from 1. A refused line has none.
unfoldable pub line_steps : Entries → List ℕ → ℕ → List ℕ → List Step
line_steps entries path number bytes = steps_of entries path number bytes (reading_of_line bytes)
