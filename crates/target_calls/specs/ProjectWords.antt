-- Defines `add_project_arguments` and `add_project_link_arguments`: arguments for all commands of the project.
use Rattle.std.specs.Prelude.{Bool, false, List, [], ◌∷◌, Option, None, bytes_eq, codes}
use Rattle.std.specs.List.{list_all}
use Rattle.arguments.specs.Arguments.{ArgumentsData}
use Rattle.values.specs.Flat.{flat_all}
use Rattle.arguments.specs.Given.{texts}
use Rattle.values.specs.Data.{Data}
use Rattle.build.specs.edge.Texts.{Text}
use Rattle.arguments.specs.declared.rule.Rule.TheVariants as rules
use Rattle.world.specs.Declaring.{add_arguments, add_link_arguments}
use Rattle.world.specs.Deed.{Deed, give, ◌>>=◌}
use Rattle.world.specs.Ruled.{obeyed_rule}

-- Holds if a language is `c`.
abbrev pub is_c : Text → Bool
is_c language = bytes_eq language (codes "c")

-- Holds if there is at least one language, and each is `c`.
abbrev pub are_c : List Text → Bool
are_c [] = false
are_c (l ∷ ls) = list_all is_c (l ∷ ls)

-- Refuses arguments that are not for C (E9).
unfoldable pub required_c : ArgumentsData → Deed (Unit {0})
required_c a = obeyed_rule (are_c (texts (codes "language") a)) rules.TakesC (codes "language")

-- Adds arguments to all compile commands (`add_project_arguments`). Refuses with E9, E21, E24 in this order.
unfoldable pub add_project_arguments : ArgumentsData → Deed (Option Data)
add_project_arguments a = do
  _ ← required_c a
  _ ← add_arguments (flat_all a.positional)
  give None

-- Adds arguments to all link commands (`add_project_link_arguments`). Refuses with E9, E21, E24 in this order.
unfoldable pub add_project_link_arguments : ArgumentsData → Deed (Option Data)
add_project_link_arguments a = do
  _ ← required_c a
  _ ← add_link_arguments (flat_all a.positional)
  give None
