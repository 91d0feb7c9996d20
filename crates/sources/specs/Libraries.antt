-- Defines which build targets `link_with` names, by number. The project decides whether each is a library.
use Rattle.std.specs.Prelude.{ℕ, List, Option, Some, None}
use Rattle.values.specs.Data.{Data, object}
use Rattle.values.specs.declared.object.Object.{Object}
use Rattle.values.specs.declared.object.Object.TheVariants as objects
use Rattle.arguments.specs.Each.{each_or_none}

-- Returns the number of the build target of an object.
abbrev pub of_object : Object → Option ℕ
of_object (objects.BuildTarget number) = Some number
of_object _ = None

-- Returns the number of the build target of a value.
abbrev pub build_target_in : Data → Option ℕ
build_target_in (object o) = of_object o
build_target_in _ = None

-- Returns the numbers of the build targets of all values, and none if one is no build target; then the call is refused (E9).
abbrev pub numbers_of : List Data → Option (List ℕ)
numbers_of ds = each_or_none build_target_in ds
