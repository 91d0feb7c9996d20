-- Defines the values of a project's options.
use Rattle.std.specs.Prelude.{ℕ, List, map}
use Rattle.arguments.specs.Arguments.{ArgumentsData}
use Rattle.machine_file.specs.Questions.{Answer, Topic, Options, options_of_answer, question_about}
use Rattle.options.specs.option_file.Declarations.{Declaration}
use Rattle.option_values.specs.BuiltIns.{BuiltIn, built_ins}
use Rattle.options.specs.Resolves.{Resolution, resolved_options}
use Rattle.project_calls.specs.Defaults.{defaults_of}
use Rattle.world.specs.World.{Facts}
use Rattle.world.specs.Deed.{Deed, give, read, consult, ◌>>=◌}

-- Returns the names of the built-in options, in order.
abbrev pub built_in_names : List (List ℕ)
built_in_names = map (λ (b : BuiltIn). b.name) built_ins

-- Returns the names of the declared options, in the order of their calls.
abbrev pub declared_names : List Declaration → List (List ℕ)
declared_names declared = map (λ (d : Declaration). d.name) declared

-- Returns the question for the machine file: the values of all options that the project has.
abbrev pub options_topic : List Declaration → Topic
options_topic declared = Options built_in_names (declared_names declared)

-- Returns the values of the options, given the machine file's answer.
abbrev pub resolution_by : ArgumentsData → List (List ℕ) → List Declaration → Answer → Facts → Resolution
resolution_by a printed declared answer facts =
    resolved_options declared (defaults_of a printed) (options_of_answer answer) facts.settings.words

-- Returns the values of the built-in and declared options: from the defaults of the call, the machine file, and the arguments of the
-- command line.
unfoldable pub resolution : ArgumentsData → List (List ℕ) → List Declaration → Deed Resolution
resolution a printed declared = do
  answer ← consult (question_about (options_topic declared))
  facts ← read
  give (resolution_by a printed declared answer facts)
