-- Defines `custom_target`.
use Rattle.std.specs.Prelude.{Option, Some, codes}
use Rattle.arguments.specs.Arguments.{ArgumentsData}
use Rattle.values.specs.Data.{Data, object}
use Rattle.values.specs.declared.object.Object.TheVariants as objects
use Rattle.world.specs.Deed.{Deed, give, read, ◌>>=◌}
use Rattle.world.specs.Fit.{deed_of_result}
use Rattle.target_calls.specs.BuildTargets.{NamedTargetData}
use Rattle.target_calls.specs.CustomInstalls.{add_custom}
use Rattle.target_calls.specs.CustomTargets.{count_named, declared_custom}
use Rattle.target_calls.specs.Files.{all_required}
use Rattle.world.specs.Here.{here_of}
use Rattle.target_calls.specs.Targets.{required_fit}

-- Returns what the arguments declare, and refuses those that break a rule with E9.
unfoldable pub said_custom : ArgumentsData → Deed NamedTargetData
said_custom a = do
  facts ← read
  deed_of_result (declared_custom (here_of facts) a)

-- Defines `custom_target(name)`. Refuses with E9; with E14 for the first missing file, in the order in which the keywords are written; and
-- with E21, E11 and E22.
unfoldable pub custom_target : ArgumentsData → Deed (Option Data)
custom_target a = do
  d ← said_custom a
  _ ← required_fit d.target
  _ ← all_required d.files
  n ← add_custom a d.target
  give (Some (object (objects.CustomTarget n (count_named (codes "output") a))))
