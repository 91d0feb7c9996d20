-- Defines what a run asks a machine file, as lines of JSON: each is one object, with its members in a fixed order.
use Rattle.std.specs.Prelude.{ℕ, List, [], ◌∷◌, ◌++◌, map, codes, Option, Some, None}
use Rattle.serde_json.specs.Data.{Data, null, boolean, number, string, object, unsigned, Members, no_members, member}
use Rattle.serde_json.specs.Find.{of_integer}
use Rattle.serde_json.specs.Written.{compact_text}
use Rattle.build.specs.edge.Texts.{Text}
use Rattle.machine_file.specs.Files.{Entry, Section as SectionSaid}
use Rattle.machine_file.specs.Lookups.{value_at}
use Rattle.machine_file.specs.Questions.{Answer, Aside, Question, Topic, Key, Whole, Options}
use Rattle.machine_file.specs.Questions.{entries_of_answer, options_of_answer, value_of_answer}
use Rattle.machine_file.specs.Values as written
use Rattle.introspection.specs.Document.{strings}

-- ---- the contents of the lines

-- The value of a key, or all entries of a section, or nothing if the machine file does not have it.
pub data Reply : Type 0 where
  Value : Option written.Value → Reply
  Section : Option (List Entry) → Reply

-- A line of questions: the section and the key, the answer, and the other keywords of the call. A question for a whole section has no key.
pub record Line : Type 0 where
  pub section : Text
  pub key : Option Text
  pub reply : Reply
  pub asides : List Aside

-- Returns the line of an option with this name, with its value in these sections.
abbrev pub option_line : List SectionSaid → List Aside → Text → Text → Line
option_line sections asides section name =
    record { section = section; key = Some name; reply = Value (value_at sections section name); asides = asides }

-- Returns the lines of a topic with this answer.
abbrev pub topic_lines : Topic → Answer → List Aside → List Line
topic_lines (Key section key) answer asides =
    record { section = section; key = Some key; reply = Value (value_of_answer answer); asides = asides } ∷ []
topic_lines (Whole section) answer asides =
    record { section = section; key = None; reply = Section (entries_of_answer answer); asides = asides } ∷ []
topic_lines (Options built_in declared) answer asides =
    map (option_line (options_of_answer answer) asides (codes "built-in options")) built_in
    ++ map (option_line (options_of_answer answer) asides (codes "project options")) declared

-- Returns the lines of a question with this answer: one, or one for each requested option.
abbrev pub lines_of : Question → Answer → List Line
lines_of question answer = topic_lines question.topic answer question.asides

-- ---- their JSON values

-- Returns members in this order, each a key with its value.
abbrev pub in_order : List (Text × Data) → Members
in_order [] = no_members
in_order (m ∷ ms) = member m.0 m.1 (in_order ms)

-- Returns an object whose members are in this order.
abbrev pub ordered_object : List (Text × Data) → Data
ordered_object ms = object (in_order ms)

-- Returns a value as a text, a number, a truth value or a list of texts.
abbrev pub shown_value : written.Value → Data
shown_value (written.Text t) = string t
shown_value (written.Integer n) = number (of_integer n)
shown_value (written.Boolean b) = boolean b
shown_value (written.Texts ts) = strings ts

-- Returns a key of a section with its value.
abbrev pub entry_member : Entry → Text × Data
entry_member e = (e.key, shown_value e.value)

-- Returns a keyword of the call with its texts.
abbrev pub aside_member : Aside → Text × Data
aside_member a = (a.name, strings a.texts)

-- Returns an answer, which is `null` if there is none.
abbrev pub shown_reply : Reply → Data
shown_reply (Value None) = null
shown_reply (Value (Some v)) = shown_value v
shown_reply (Section None) = null
shown_reply (Section (Some entries)) = ordered_object (map entry_member entries)

-- Returns the key, which is `null` for a whole section.
abbrev pub shown_key : Option Text → Data
shown_key None = null
shown_key (Some key) = string key

-- Returns what else the call stated.
abbrev pub shown_beside : List Aside → Data
shown_beside asides = ordered_object (map aside_member asides)

-- Returns a line, asked in a definition file at one of its lines.
unfoldable pub line_of : Line → Text → ℕ → Data
line_of l file place = ordered_object (
    (codes "section", string l.section)
    ∷ (codes "key", shown_key l.key)
    ∷ (codes "answer", shown_reply l.reply)
    ∷ (codes "file", string file)
    ∷ (codes "line", number (unsigned place))
    ∷ (codes "beside", shown_beside l.asides)
    ∷ [])

-- Returns a line without its place and without what else the call stated.
unfoldable pub head_of : Line → Data
head_of l = ordered_object (
    (codes "section", string l.section)
    ∷ (codes "key", shown_key l.key)
    ∷ (codes "answer", shown_reply l.reply)
    ∷ [])

-- Returns the text of a line, with no space between its parts.
unfoldable pub line_text : Line → Text → ℕ → Text
line_text l file place = compact_text (line_of l file place)

-- Returns the text of a line without its place and without what else the call stated.
unfoldable pub head_text : Line → Text
head_text l = compact_text (head_of l)

-- Returns the text of what else the call stated. Among lines that have this and the text above in common, only the first is printed.
unfoldable pub beside_text : List Aside → Text
beside_text asides = compact_text (shown_beside asides)
