-- Defines the functions that take the name of a variable as a text.
use Rattle.std.specs.Prelude.{ℕ, Bool, true, false, not, ◌||◌, ◌&&◌, List, [], Option, Some, None, is_some, refl}
use Rattle.values.specs.Data.{Data, boolean}
use Rattle.arguments.specs.declared.rule.Rule.TheVariants as rules
use Rattle.support.specs.declared.faults.refusal.Refusal.TheVariants as refusals
use Rattle.arguments.specs.Arguments.{ArgumentsData}
use Rattle.arguments.specs.Given.{argument, text_at}
use Rattle.world.specs.World.{with_variable}
use Rattle.world.specs.Deed.{Deed, give, refuse, read, change, ◌>>=◌, need}
use Rattle.world.specs.Ruled.{obeyed_rule}
use Rattle.values.specs.language_names.Names.{is_variable_name, is_predefined, predefined_value}

-- Holds if definition files may assign a variable with this name.
abbrev pub is_settable : List ℕ → Bool
is_settable name = is_variable_name name && not (is_predefined name)

-- Assigns a value to a variable, and refuses with E9 if there is no value.
unfoldable pub set_to : List ℕ → Option Data → Deed (Unit {0})
set_to name (Some d) = change (with_variable name (Some d)) (λ facts. refl)
set_to name None = refuse refusals.Arguments []

-- Assigns the second argument to the variable that the first one names (`set_variable`). Refuses with E9 a name that may not be assigned.
unfoldable pub set_variable : ArgumentsData → Deed (Option Data)
set_variable a = do
  _ ← obeyed_rule (is_settable (text_at 0 a)) rules.IsSettable (text_at 0 a)
  _ ← set_to (text_at 0 a) (argument 1 a)
  give None

-- Returns the value of a variable, and otherwise the fallback. Without either it refuses with E5.
unfoldable pub value_or : List ℕ → Option Data → Option Data → Deed (Option Data)
value_or name (Some d) fallback = give (Some d)
value_or name None (Some d) = give (Some d)
value_or name None None = refuse refusals.UndefinedName name

-- Returns the value of a variable that definition files assign, and otherwise the fallback.
unfoldable pub set_or : List ℕ → Option Data → Deed (Option Data)
set_or name fallback = do
  facts ← read
  value_or name (facts.variables name) fallback

-- Returns the object of a predefined variable.
unfoldable pub predefined_variable : List ℕ → Deed (Option Data)
predefined_variable name = give (Some (predefined_value name))

-- Returns the value of a variable, and otherwise the fallback, by whether the name is predefined.
unfoldable pub variable_or : Bool → List ℕ → Option Data → Deed (Option Data)
variable_or true name fallback = predefined_variable name
variable_or false name fallback = set_or name fallback

-- Returns the value of the variable that the first argument names, and otherwise the second argument (`get_variable`). Refuses with E9 a
-- text that is no name of a variable, and with E5 if there is neither value.
unfoldable pub get_variable : ArgumentsData → Deed (Option Data)
get_variable a = do
  _ ← obeyed_rule (is_variable_name (text_at 0 a)) rules.IsVariableName (text_at 0 a)
  variable_or (is_predefined (text_at 0 a)) (text_at 0 a) (argument 1 a)

-- Returns whether the variable that the argument names has a value (`is_variable`). Refuses with E9 a text that is no name of a variable.
unfoldable pub is_variable : ArgumentsData → Deed (Option Data)
is_variable a = do
  _ ← obeyed_rule (is_variable_name (text_at 0 a)) rules.IsVariableName (text_at 0 a)
  facts ← read
  give (Some (boolean (is_predefined (text_at 0 a) || is_some (facts.variables (text_at 0 a)))))

-- Unsets the variable that the argument names (`unset_variable`). Refuses with E9 a name that may not be assigned, and with E5 a variable
-- without a value.
unfoldable pub unset_variable : ArgumentsData → Deed (Option Data)
unset_variable a = do
  _ ← obeyed_rule (is_settable (text_at 0 a)) rules.IsSettable (text_at 0 a)
  facts ← read
  _ ← need (is_some (facts.variables (text_at 0 a))) refusals.UndefinedName (text_at 0 a)
  _ ← change (with_variable (text_at 0 a) None) (λ facts. refl)
  give None
