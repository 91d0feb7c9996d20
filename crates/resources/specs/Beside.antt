-- Defines what a question to the machine file carries in addition to its topic: what the call says.
use Rattle.std.specs.Prelude.{ℕ, List, [], ◌∷◌, Option, Some, None, codes}
use Rattle.std.specs.List.{flat_map}
use Rattle.arguments.specs.Arguments.{ArgumentsData}
use Rattle.arguments.specs.Given.{keyword}
use Rattle.values.specs.Data.{Data}
use Rattle.values.specs.Flat.{opened}
use Rattle.machine_file.specs.Asides.{words_in}
use Rattle.machine_file.specs.Questions.{Aside, Question, Topic}

-- Returns the words for the value of a keyword, if it is given.
abbrev pub aside_of : (name : List ℕ) → Option Data → List Aside
aside_of name None = []
aside_of name (Some d) = record { name = name; texts = words_in (opened d) } ∷ []

-- Returns the keywords that say how a check is made, which dependency is wanted, and whether it is required.
abbrev pub beside : List (List ℕ)
beside =
    codes "prefix" ∷ codes "args" ∷ codes "dependencies" ∷ codes "include_directories" ∷ codes "version" ∷ codes "required" ∷ []

-- Returns the words for the values of these keywords.
abbrev pub asides_named : List (List ℕ) → ArgumentsData → List Aside
asides_named names a = flat_map (λ name. aside_of name (keyword name a)) names

-- Returns the question of a call with these arguments.
unfoldable pub call_question : Topic → ArgumentsData → Question
call_question topic a = record { topic = topic; asides = asides_named beside a }
