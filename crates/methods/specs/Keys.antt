-- Defines what the machine file has for a key.
use Rattle.std.specs.Prelude.{ℕ, List, Option, Some, unwrap_or}
use Rattle.std.specs.Option.{option_and_then}
use Rattle.values.specs.Data.{Data, text}
use Rattle.values.specs.Limits.{within}
use Rattle.machine_file.specs.Questions.{Answer, Key, question_about, value_of_answer}
use Rattle.machine_file.specs.Readers.{text_said}
use Rattle.world.specs.Deed.{Deed, give, consult, ◌>>=◌, answer_or_refusal}

-- Returns the text of an answer, and otherwise the default.
abbrev pub said_or : (default : List ℕ) → Answer → List ℕ
said_or default answer = unwrap_or (option_and_then text_said (value_of_answer answer)) default

-- Returns the text that a section has for a key, and otherwise the default. One that is too long is refused.
unfoldable pub text_of_key : (section key default : List ℕ) → Deed (Option Data)
text_of_key section key default = do
  answer ← consult (question_about (Key section key))
  d ← answer_or_refusal (within (text (said_or default answer)))
  give (Some d)
