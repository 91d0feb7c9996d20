-- Defines what the machine file answers in place of a compiler.
use Rattle.std.specs.Prelude.{ℕ, ℤ, negsuc, Bool, false, List, [], ◌∷◌, unwrap_or, codes}
use Rattle.std.specs.Option.{option_and_then}
use Rattle.machine_file.specs.Questions.{Answer, Topic, check_topic, value_of_answer}
use Rattle.machine_file.specs.Readers.{boolean_said, integer_said}

-- Returns whether a check is true. Its answer is in `[checks]`, under its method and texts; without one it is false.
abbrev pub is_true : Answer → Bool
is_true answer = unwrap_or (option_and_then boolean_said (value_of_answer answer)) false

-- Returns the number of `sizeof` or `alignment`, and -1 if the machine file has none.
abbrev pub integer_answer : Answer → ℤ
integer_answer answer = unwrap_or (option_and_then integer_said (value_of_answer answer)) (negsuc 0)

-- Returns the question whether the compiler supports an argument.
abbrev pub argument_topic : List ℕ → Topic
argument_topic argument = check_topic (codes "has_argument") (argument ∷ [])
