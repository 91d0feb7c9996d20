-- Defines what a store lends.
use Rattle.std.specs.Borrow.{Fml, Lends, MutBor}
use Rattle.build.specs.project.World.{WorldData}
use Rattle.build.specs.contracts.project.project.Project.{the_row as project_row}
use Rattle.world.specs.Store.{Kept}
use Rattle.world.specs.contracts.store.Store.{the_row as store_row}

-- Returns a store with this project.
abbrev pub with_project : Kept → WorldData → Kept
with_project k p = record k { project = p }

-- Holds if the store ends with the last value of the project that it lends.
abbrev pub LendsProject : MutBor Kept → MutBor WorldData → Fml
LendsProject s r = Lends store_row project_row s r (with_project s.now)
