-- Defines the questions of the code, without their place in memory.
use Rattle.std.specs.Prelude.{List, map, string_bytes}
use Rattle.values.specs.Flat.{opened}
use Rattle.values.specs.View.{data_of}
use Rattle.machine_file.specs.Asides.{words_in}
use Rattle.machine_file.specs.Questions as plain
use Rattle.machine_file.specs.View.{strings_in}
use Rattle.machine_file.specs.declared.aside.Aside.{Aside}
use Rattle.machine_file.specs.declared.aside.ShownAside.{ShownAside}
use Rattle.machine_file.specs.declared.question.Question.{Question}
use Rattle.machine_file.specs.declared.question.Topic.{Topic}
use Rattle.machine_file.specs.declared.question.Topic.TheVariants as asked

-- Returns the topic of a question of the code as plain data, with each string as its bytes.
abbrev pub topic_in : Topic → plain.Topic
topic_in (asked.Key section key) = plain.Key (string_bytes section) (string_bytes key)
topic_in (asked.Whole section) = plain.Whole (string_bytes section)
topic_in (asked.Options built_in declared) = plain.Options (strings_in built_in.items) (strings_in declared.items)

-- Returns a keyword of a call as plain data: its name as bytes, and the words for its value.
abbrev pub aside_in : Aside → plain.Aside
aside_in a = record { name = string_bytes a.name; texts = words_in (opened (data_of a.value)) }

-- Returns a keyword of a call with its words as plain data, as bytes.
abbrev pub shown_in : ShownAside → plain.Aside
shown_in a = record { name = string_bytes a.name; texts = strings_in a.texts.items }

-- Returns keywords of a call with their words as plain data, in their order.
abbrev pub all_shown_in : List ShownAside → List plain.Aside
all_shown_in asides = map shown_in asides

-- Returns the other keywords of a call as plain data, in their order.
abbrev pub asides_in : List Aside → List plain.Aside
asides_in asides = map aside_in asides

-- Returns a question of the code as plain data, with each string as its bytes.
abbrev pub question_in : Question → plain.Question
question_in q = record { topic = topic_in q.topic; asides = asides_in q.asides.items }
