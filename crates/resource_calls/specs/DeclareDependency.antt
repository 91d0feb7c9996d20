-- Defines `declare_dependency`: lists that a target takes over.
use Rattle.std.specs.Prelude.{Option, Some}
use Rattle.arguments.specs.Arguments.{ArgumentsData}
use Rattle.values.specs.Data.{Data, object}
use Rattle.values.specs.declared.object.Dependency.{Dependency}
use Rattle.values.specs.declared.object.Object.TheVariants as objects
use Rattle.build.specs.Libraries.{linked_of}
use Rattle.world.specs.Deed.{Deed, give, read, ◌>>=◌, answer_or_refusal}
use Rattle.world.specs.Fit.{deed_of_result}
use Rattle.resource_calls.specs.JoinedLists.{joined_dependency}
use Rattle.resource_calls.specs.NamedFiles.{files_required}
use Rattle.resource_calls.specs.OwnLists.{OwnData, own_lists}
use Rattle.world.specs.Here.{here_of}

-- Returns the lists that the call itself gives, and refuses arguments that break a rule with E9.
unfoldable pub said_lists : ArgumentsData → Deed OwnData
said_lists a = do
  facts ← read
  deed_of_result (own_lists (here_of facts) a)

-- Returns the dependency with these lists and those of its dependencies, and refuses lists that are too long with E22.
unfoldable pub joined_given : ArgumentsData → OwnData → Deed Dependency
joined_given a own = do
  facts ← read
  answer_or_refusal (joined_dependency facts.project.surroundings.facts.version (linked_of facts.project.targets) a own)

-- Defines `declare_dependency()`. Refuses with E9, with E14 for the first missing source, and with E22.
unfoldable pub declare_dependency : ArgumentsData → Deed (Option Data)
declare_dependency a = do
  own ← said_lists a
  _ ← files_required own.sources
  d ← joined_given a own
  give (Some (object (objects.Dependency d)))
