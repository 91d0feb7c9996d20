-- Defines the name of a declared option.
use Rattle.std.specs.Prelude.{ℕ, List, Option, Some, None}
use Rattle.syntax.specs.ExpressionTree.{ArgumentTree}
use Rattle.options.specs.option_file.Calls.{name_in}
use Rattle.options.specs.option_file.Given.{given_of_argument}
use Rattle.options.specs.option_file.Misfits.{RefusedData, Nameless, refused_as}
use Rattle.options.specs.option_file.Unfit.{given_refused}

-- Returns the name that the first argument gives, which has no keyword.
abbrev pub first_name : ArgumentTree → Option (List ℕ)
first_name (None, e) = name_in (given_of_argument e)
first_name (Some key, e) = None

-- Returns what is wrong with the first argument.
abbrev pub first_argument_refused : ArgumentTree → Option RefusedData
first_argument_refused (None, e) = given_refused (given_of_argument e)
first_argument_refused (Some key, e) = Some (refused_as Nameless)
