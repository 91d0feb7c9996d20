-- Defines in words why a line is not allowed where it is.
use Rattle.std.specs.Prelude.{ℕ, List, [], ◌∷◌, ◌++◌, Option, Some, None, Result, Err, codes, if◌then◌else◌}
use Rattle.machine_file.specs.Sections.{expected_of_key, fits}
use Rattle.machine_file.specs.Values.{Value, Text, Integer, Boolean, Texts}
use Rattle.machine_file.specs.declared.section.Expected.{Expected}
use Rattle.machine_file.specs.declared.section.Expected.TheVariants as Wants
use Rattle.machine_file.specs.declared.section.SectionKind.{SectionKind}

-- A reason why a line of a machine file is refused.
pub data MisfitData : Type 0 where
  -- No section has this name, or one with it began before.
  NoSection : (name : List ℕ) → MisfitData
  SectionTwice : (name : List ℕ) → MisfitData
  -- No section is open.
  Outside : MisfitData
  -- A line of the section of this name has no `=`.
  NoSign : (section : List ℕ) → MisfitData
  -- The text after the key is no value.
  NoValue : (section key : List ℕ) → MisfitData
  -- The section knows no such key.
  NoKey : (section key : List ℕ) → MisfitData
  -- The key takes this type, and the value has another.
  OtherValue : (section key : List ℕ) → Expected → Value → MisfitData
  -- The key was given before in the section.
  KeyTwice : (section key : List ℕ) → MisfitData

-- Returns what is wrong with a key and value that a section refuses, given what the key takes.
abbrev pub misfit_by : List ℕ → List ℕ → Value → Option Expected → MisfitData
misfit_by section key v None = NoKey section key
misfit_by section key v (Some want) = if fits want v then KeyTwice section key else OtherValue section key want v

-- Returns why a section refuses a key with a value, given the section's name and kind. It presumes that the section refuses them.
abbrev pub misfit_of : List ℕ → SectionKind → List ℕ → Value → MisfitData
misfit_of section kind key v = misfit_by section key v (expected_of_key kind key)

-- ---- in words

-- Returns the words for what a key takes.
abbrev pub expected_words : Expected → List ℕ
expected_words Wants.Any = codes "a value"
expected_words Wants.Words = codes "a text or texts"
expected_words Wants.Text = codes "a text"
expected_words Wants.Texts = codes "a list of texts"
expected_words Wants.Boolean = codes "a truth value"
expected_words Wants.Integer = codes "an integer"

-- Returns the words for a value that was given.
abbrev pub value_words : Value → List ℕ
value_words (Text text) = codes "a text"
value_words (Integer number) = codes "an integer"
value_words (Boolean boolean) = codes "a truth value"
value_words (Texts []) = codes "an empty list"
value_words (Texts (item ∷ items)) = codes "a list of texts"

-- Returns the text that says these words of a section.
abbrev pub section_is : List ℕ → List ℕ → List ℕ
section_is name words = codes "section '" ++ (name ++ (codes "': " ++ words))

-- Returns the text that says these words of a key in a section.
abbrev pub key_is : List ℕ → List ℕ → List ℕ → List ℕ
key_is section key words = codes "[" ++ (section ++ (codes "] key '" ++ (key ++ (codes "': " ++ words))))

-- Returns the words that name the expected type and the given value.
abbrev pub takes_words : Expected → Value → List ℕ
takes_words want v = codes "takes " ++ (expected_words want ++ (codes ", and got " ++ value_words v))

-- Returns the reason in words, which are the details of the fault.
abbrev pub words_of : MisfitData → List ℕ
words_of (NoSection name) = section_is name (codes "there is none")
words_of (SectionTwice name) = section_is name (codes "occurs twice")
words_of Outside = codes "line: is in no section"
words_of (NoSign section) = codes "[" ++ (section ++ codes "] line: has no '='")
words_of (NoValue section key) = key_is section key (codes "has no value")
words_of (NoKey section key) = key_is section key (codes "there is none")
words_of (OtherValue section key want v) = key_is section key (takes_words want v)
words_of (KeyTwice section key) = key_is section key (codes "occurs twice")

-- Refuses for this reason.
abbrev pub refused_misfit : {A : Type 0} → MisfitData → Result A (List ℕ)
refused_misfit m = Err (words_of m)
