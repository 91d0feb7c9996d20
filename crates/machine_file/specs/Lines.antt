-- Defines the lines of a machine file, and the form of each.
use Rattle.std.specs.Prelude.{ℕ, List, [], ◌∷◌, Option, Some, None, ◌==◌, if◌then◌else◌, map}
use Rattle.std.specs.Str.Lines.{lines}
use Rattle.syntax.specs.lexer.Bytes.{hash, open_bracket, close_bracket}
use Rattle.machine_file.specs.declared.text.Blanks.TheVariants as blanks
use Rattle.machine_file.specs.Texts.{trimmed_text, before_last_byte}

-- Returns the lines of a file, without blanks at their ends.
abbrev pub file_lines : List ℕ → List (List ℕ)
file_lines bytes = map (trimmed_text blanks.All) (lines bytes)

-- A line is empty or a comment, or it begins a section and has its name, or it must be a key with its value.
pub data Form : Type 0 where
  Nothing : Form
  Header : (name : List ℕ) → Form
  -- The text is the whole line.
  Pair : (text : List ℕ) → Form

-- Returns the form of a line that begins with an opening bracket: that of a section if it ends with a closing one.
abbrev pub bracketed_form : List ℕ → Option (List ℕ) → Form
bracketed_form line None = Pair line
bracketed_form line (Some name) = Header name

-- Returns the form of a line: nothing, the head of a section, or a key and a value.
abbrev pub form_of : List ℕ → Form
form_of [] = Nothing
form_of (b ∷ bs) =
    if b == hash then Nothing
    else (if b == open_bracket then bracketed_form (b ∷ bs) (before_last_byte close_bracket bs)
    else Pair (b ∷ bs))
