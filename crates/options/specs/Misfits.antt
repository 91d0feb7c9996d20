-- Defines in words what is wrong with a value that a place gives an option.
use Rattle.std.specs.Prelude.{ℕ, List, ◌++◌, Option, Some, None, codes}
use Rattle.std.specs.Fmt.{signed_decimal}
use Rattle.support.specs.declared.faults.refusal.Refusal.{Refusal}
use Rattle.support.specs.declared.faults.refusal.Refusal.TheVariants as refusals
use Rattle.machine_file.specs.Values as written
use Rattle.options.specs.option_file.Given as given
use Rattle.option_values.specs.Given.{boolean_text}
use Rattle.option_values.specs.Kinds.{Kind}
use Rattle.option_values.specs.Takes.{kind_words}

-- A reason why a name and a value are refused.
pub data MisfitData : Type 0 where
  -- No option has this name.
  NoOption : (name : List ℕ) → MisfitData
  -- A text that is no name with a value, because it has no `=`.
  NoSign : (text : List ℕ) → MisfitData
  -- The value `both` of `default_library`, which is left out.
  Both : MisfitData
  -- The option of this name takes this kind, and the value is not of this kind.
  NoValue : (name : List ℕ) → Kind → written.Value → MisfitData
  -- The option of this name takes this kind, and the default of its declaration is not of this kind.
  NoDefault : (name : List ℕ) → Kind → Option given.Given → MisfitData

-- Returns E23 for `both` of `default_library`, and else E15.
abbrev pub refusal_of : MisfitData → Refusal
refusal_of Both = refusals.LeftOut
refusal_of _ = refusals.OptionValue

-- ---- in words

-- Returns the text in single quotes. A quote in the text is not escaped.
abbrev pub in_quotes : List ℕ → List ℕ
in_quotes text = codes "'" ++ (text ++ codes "'")

-- Returns the words for a value: a text in single quotes, and `a list` for a list.
abbrev pub written_words : written.Value → List ℕ
written_words (written.Text text) = in_quotes text
written_words (written.Integer number) = signed_decimal number
written_words (written.Boolean boolean) = boolean_text boolean
written_words (written.Texts items) = codes "a list"

-- Returns the words for a value of a declaration.
abbrev pub given_words : given.Given → List ℕ
given_words (given.Text text) = in_quotes text
given_words (given.Integer number) = signed_decimal number
given_words (given.Boolean boolean) = boolean_text boolean
given_words (given.Texts items) = codes "a list"
given_words given.Other = codes "another value"

-- Returns the words for a default, or for none.
abbrev pub default_words : Option given.Given → List ℕ
default_words None = codes "nothing"
default_words (Some value) = given_words value

-- Returns the text that says these words of an option.
abbrev pub option_is : List ℕ → List ℕ → List ℕ
option_is name words = codes "option '" ++ (name ++ (codes "': " ++ words))

-- Returns the text that an option takes this kind and got that.
abbrev pub takes : List ℕ → Kind → List ℕ → List ℕ
takes name kind got = option_is name (codes "takes " ++ (kind_words kind ++ (codes ", and got " ++ got)))

-- Returns the details in words.
abbrev pub words_of : MisfitData → List ℕ
words_of (NoOption name) = option_is name (codes "there is none")
words_of (NoSign text) = codes "'" ++ (text ++ codes "': has no '='")
words_of Both = option_is (codes "default_library") (codes "'both' is left out")
words_of (NoValue name kind what) = takes name kind (written_words what)
words_of (NoDefault name kind value) = takes name kind (default_words value)
