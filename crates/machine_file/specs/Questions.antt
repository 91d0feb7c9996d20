-- Defines what a run asks a machine file, and the answers.
use Rattle.std.specs.Prelude.{ℕ, List, [], ◌∷◌, ◌++◌, Bool, Option, None, codes, if◌then◌else◌}
use Rattle.support.specs.Among.{is_among}
use Rattle.machine_file.specs.Files.{Entry, Section}
use Rattle.machine_file.specs.Lookups.{check_key, entries_at, value_at}
use Rattle.machine_file.specs.Values.{Value}

-- The topic of a question is the part of a machine file that it asks for.
pub data Topic : Type 0 where
  -- The value of a key in a section, such as `has_function fsync` in `[checks]` or `sed` in `[binaries]`.
  Key : (section key : List ℕ) → Topic
  -- A whole section, such as `[dependency zlib]`.
  Whole : (section : List ℕ) → Topic
  -- The sections of options: the names of the built-in options, and of those that the project declares.
  Options : (built_in declared : List (List ℕ)) → Topic

-- Something else that the call states, which changes no answer: the name of a keyword, and its texts.
pub record Aside : Type 0 where
  pub name : List ℕ
  pub texts : List (List ℕ)

-- A question that a run has for the machine file: its topic, and the other keywords of the call.
pub record Question : Type 0 where
  pub topic : Topic
  pub asides : List Aside

-- Returns a question whose call states nothing else.
abbrev pub question_about : Topic → Question
question_about topic = record { topic = topic; asides = [] }

-- Returns the topic of a check of the compiler, given its method and its arguments.
abbrev pub check_topic : List ℕ → List (List ℕ) → Topic
check_topic method arguments = Key (codes "checks") (check_key method arguments)

-- Returns the topic of the dependency with this name.
abbrev pub dependency_topic : List ℕ → Topic
dependency_topic name = Whole (codes "dependency " ++ name)

-- ---- answers

-- The value of a key, the entries of a section, or the sections of options, or nothing if the file does not have them.
pub data Answer : Type 0 where
  Valued : Option Value → Answer
  Said : Option (List Entry) → Answer
  Given : List Section → Answer

-- Returns whether a section gives values to options.
abbrev pub gives_options : List ℕ → Bool
gives_options name = is_among (codes "built-in options" ∷ codes "project options" ∷ []) name

-- Returns the sections that give values to options, in the order of their lines.
abbrev pub options_at : List Section → List Section
options_at [] = []
options_at (s ∷ ss) = if gives_options s.name then s ∷ options_at ss else options_at ss

-- Returns the answer of these sections.
abbrev pub answer_to : List Section → Topic → Answer
answer_to sections (Key section key) = Valued (value_at sections section key)
answer_to sections (Whole section) = Said (entries_at sections section)
answer_to sections (Options built_in declared) = Given (options_at sections)

-- ---- the parts of an answer

-- Returns the value in an answer for a key. There is none if the file lacks the key, or if the answer is for another kind of topic.
abbrev pub value_of_answer : Answer → Option Value
value_of_answer (Valued v) = v
value_of_answer _ = None

-- Returns the entries in an answer for a section, or none if the file lacks the section, or if the answer is for another kind of topic.
abbrev pub entries_of_answer : Answer → Option (List Entry)
entries_of_answer (Said entries) = entries
entries_of_answer _ = None

-- Returns the sections in an answer for options, and no sections if the answer is for another kind of topic.
abbrev pub options_of_answer : Answer → List Section
options_of_answer (Given sections) = sections
options_of_answer _ = []
