-- Defines how folders are entered, and the files by which they are entered.
use Rattle.std.specs.Prelude.{ℕ, Bool, zero, suc, List, []}
use Rattle.support.specs.declared.faults.refusal.Refusal.TheVariants as refusals
use Rattle.world.specs.Deed.{refuse, read}
use Rattle.world.specs.Plan.{Plan, deed, ruled, ◌>>=◌, give}
use Rattle.expressions.specs.Folders.{fresh, go_back, statements_of_folder}
use Rattle.interp.specs.declared.flow.Flow.{Flow}
use Rattle.interp.specs.declared.flow.Flow.TheVariants.{Next}
use Rattle.interp.specs.Bounds.{Bounds}
use Rattle.interp.specs.Statements.{do_all}

-- Enters the folder that a text names and runs its definition file. The number is that of the folders that may still be nested.
abbrev pub folder_by : Bool → ℕ → List ℕ → Plan Flow
folder_by few zero text = do
  path ← fresh text
  deed (refuse refusals.Limit [])
folder_by few (suc left) text = do
  path ← fresh text
  outer ← deed read
  body ← statements_of_folder path
  _ ← ruled (do_all (folder_by few left) few body)
  _ ← go_back outer
  give Next

-- Enters the folder that a text names and runs its definition file, within these bounds.
abbrev pub folder : Bounds → List ℕ → Plan Flow
folder b = folder_by b.few b.left
