-- Defines what a value of a machine file is, by its type.
use Rattle.std.specs.Prelude.{ℕ, ℤ, Bool, List, [], ◌∷◌, Option, Some, None}
use Rattle.machine_file.specs.Values.{Value, Text, Integer, Boolean, Texts}

-- Returns the text if the value is a text, and none otherwise.
abbrev pub text_said : Value → Option (List ℕ)
text_said (Text text) = Some text
text_said (Integer number) = None
text_said (Boolean boolean) = None
text_said (Texts items) = None

-- Returns the integer if the value is an integer, and none otherwise.
abbrev pub integer_said : Value → Option ℤ
integer_said (Text text) = None
integer_said (Integer number) = Some number
integer_said (Boolean boolean) = None
integer_said (Texts items) = None

-- Returns the boolean if the value is a boolean, and none otherwise.
abbrev pub boolean_said : Value → Option Bool
boolean_said (Text text) = None
boolean_said (Integer number) = None
boolean_said (Boolean boolean) = Some boolean
boolean_said (Texts items) = None

-- Returns the texts if the value is a list, which may be empty, and none otherwise.
abbrev pub texts_said : Value → Option (List (List ℕ))
texts_said (Text text) = None
texts_said (Integer number) = None
texts_said (Boolean boolean) = None
texts_said (Texts items) = Some items

-- Returns the words of a program: a text is one, and a list has several.
abbrev pub words_said : Value → List (List ℕ)
words_said (Text text) = text ∷ []
words_said (Integer number) = []
words_said (Boolean boolean) = []
words_said (Texts items) = items
