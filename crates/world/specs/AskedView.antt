-- Defines the view of a question that was asked of the machine file.
use Rattle.std.specs.Prelude.{List, map, string_bytes}
use Rattle.machine_file.specs.QuestionsView.{question_in}
use Rattle.world.specs.World as plain
use Rattle.world.specs.declared.asked_question.Asked.{Asked}

-- Returns the plain data of a question that was asked.
abbrev pub asked_in : Asked → plain.Asked
asked_in a = record { question = question_in a.question; file = string_bytes a.file; line = a.line }

-- Returns the plain data of all questions that were asked.
abbrev pub all_asked_in : List Asked → List plain.Asked
all_asked_in asked = map asked_in asked
