-- Defines how variables are assigned.
use Rattle.std.specs.Prelude.{ℕ, Bool, true, false, List, Option, Some, None, refl}
use Rattle.std.specs.Option.{option_and_then}
use Rattle.values.specs.declared.object.Object.{Object}
use Rattle.values.specs.declared.object.Object.TheVariants as objects
use Rattle.values.specs.Data.{Data, object, object_in}
use Rattle.arguments.specs.Rules.{breach_message}
use Rattle.arguments.specs.declared.rule.Rule.TheVariants as rules
use Rattle.support.specs.declared.faults.refusal.Refusal.TheVariants as refusals
use Rattle.operations.specs.declared.operators.operator.Binary.TheVariants.{Add}
use Rattle.operations.specs.operators.Operations.{binary_answer}
use Rattle.values.specs.language_names.Names.{is_predefined}
use Rattle.world.specs.Configuring.{copy_configuration}
use Rattle.world.specs.World.{with_variable}
use Rattle.world.specs.Deed.{change}
use Rattle.world.specs.Plan.{Plan, deed, ◌>>=◌, give, refuse, answer_at_line}
use Rattle.expressions.specs.Forms.{variable}
use Rattle.expressions.specs.Rounds.{Round}

-- Returns the number of configuration data, and none for any other object.
abbrev pub configuration_of : Object → Option ℕ
configuration_of (objects.ConfigurationData number) = Some number
configuration_of o = None

-- Returns the number of configuration data, and none for any other value.
abbrev pub configuration_in : Data → Option ℕ
configuration_in d = option_and_then configuration_of (object_in d)

-- Returns a copy of configuration data as a value.
abbrev pub copied_configuration : ℕ → Plan Data
copied_configuration number = do
  copy ← deed (copy_configuration number)
  give (object (objects.ConfigurationData copy))

-- Returns a copy of the configuration data with a number, or the value if it has no number.
abbrev pub own_by : Option ℕ → Data → Plan Data
own_by (Some number) d = copied_configuration number
own_by None d = give d

-- Returns a copy of configuration data, which is not frozen, and any other value unchanged.
abbrev pub own : Data → Plan Data
own d = own_by (configuration_in d) d

-- Assigns a value to a variable, or refuses, by whether the name is predefined.
abbrev pub assigned_by : Bool → ℕ → List ℕ → Data → Plan (Unit {0})
assigned_by true line name d = refuse line refusals.Arguments (breach_message rules.IsSettable name)
assigned_by false line name d = deed (change (with_variable name (Some d)) (λ facts. refl))

-- Assigns a value to a variable, and refuses a predefined name (E9).
abbrev pub variable_assignment : ℕ → List ℕ → Data → Plan (Unit {0})
variable_assignment line name d = assigned_by (is_predefined name) line name d

-- Assigns the sum of two values to a variable.
abbrev pub assignment_of_sum : ℕ → List ℕ → Data → Data → Plan (Unit {0})
assignment_of_sum line name d e = do
  sum ← answer_at_line line (binary_answer Add d e)
  variable_assignment line name sum

-- Assigns to a variable the sum of its value and another.
abbrev pub plus_assignment_of : ℕ → List ℕ → Data → Plan (Unit {0})
plus_assignment_of line name e = do
  d ← variable line name
  assignment_of_sum line name d e

-- Defines `name += value`. The variable is looked up first, and read again once the right side has a value: an expression with a value
-- changes no variable.
abbrev pub plus_assignment : ℕ → List ℕ → Plan Data → Plan (Unit {0})
plus_assignment line name value = do
  _ ← variable line name
  e ← value
  plus_assignment_of line name e

-- Assigns the values of a loop round to its variables.
abbrev pub assignment_of_round : ℕ → List ℕ → Option (List ℕ) → Round → Plan (Unit {0})
assignment_of_round line first (Some second) (d, Some e) = do
  _ ← variable_assignment line first d
  variable_assignment line second e
assignment_of_round line first second (d, e) = variable_assignment line first d
