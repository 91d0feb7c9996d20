-- Defines whether a call requires what it looks for, and what it returns if that is not found.
use Rattle.std.specs.Prelude.{Bool, false, codes, if◌then◌else◌}
use Rattle.arguments.specs.Arguments.{ArgumentsData}
use Rattle.arguments.specs.Given.{flag, requirement}
use Rattle.arguments.specs.declared.readers.Requirement.{Requirement}
use Rattle.arguments.specs.declared.readers.Requirement.TheVariants as requirements
use Rattle.values.specs.declared.object.Object.{Object}
use Rattle.values.specs.declared.object.Object.TheVariants as objects

-- Returns what the keyword `required` says, which is true by default.
abbrev pub required_by : ArgumentsData → Requirement
required_by a = requirement requirements.Required a

-- Holds if the keyword `disabler` is true, which is false by default.
abbrev pub gives_disabler : ArgumentsData → Bool
gives_disabler a = flag (codes "disabler") false a

-- Returns an object, or a disabler in its place.
abbrev pub object_or : Object → (is_disabled : Bool) → Object
object_or o is_disabled = if is_disabled then objects.Disabler else o

-- Returns the result for something that was not found: a disabler if the keyword `disabler` requests one, and otherwise this object.
abbrev pub missing_object : ArgumentsData → Object → Object
missing_object a o = object_or o (gives_disabler a)
