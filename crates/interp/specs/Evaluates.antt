-- Defines what a call inside an expression does.
use Rattle.std.specs.Prelude.{◌≡◌, ℕ, ◌+◌, ◌≤◌, List, length, Result, Ok, Err}
use Rattle.code.specs.Draft.{IsFront}
use Rattle.code.specs.Nodes.{trees}
use Rattle.code.specs.declared.code.Code.{Code}
use Rattle.syntax.specs.ExpressionTree.{ExpressionTree}
use Rattle.ports.specs.Outputs.{OutputState}
use Rattle.ports.specs.Tree.{TreeState}
use Rattle.world.specs.Deed.{Files}
use Rattle.world.specs.Gives.{Holds}
use Rattle.world.specs.Plan.{Plan}
use Rattle.expressions.specs.Contexts.{Stand, Given, Leads, stand_of}
use Rattle.expressions.specs.declared.context.Context.{Context}
use Rattle.interp.specs.declared.flow.Flow.{Flow}
use Rattle.interp.specs.declared.halt.Halt.{Halt}
use Rattle.interp.specs.declared.halt.Halt.TheVariants as halts
use Rattle.interp.specs.Bounds.{Bounds}
use Rattle.interp.specs.Folders.{folder}
use Rattle.interp.specs.FolderEntries.{failures_inside, folder_in_expression}

-- Holds if the call stopped as the plan does, or if it was left for a folder. Then the rest of the whole plan is what is done for that
-- folder.
abbrev pub HaltsTo : {A : Type 0} → Files → Bounds → Plan A → Stand → Halt → Stand → Type 0
HaltsTo {A = A} files left plan old (halts.Stops stop) new = Given {B = A} (λ a. a) files plan old (Err stop) new
HaltsTo files left plan old (halts.Enters entry) new = Leads files plan old (folder_in_expression left entry.value) new

-- Holds if the call returned the value of the plan, or if it halted as `HaltsTo` defines.
abbrev pub ComesTo : {A B : Type 0} → (B → A) → Files → Bounds → Plan A → Stand → Result B Halt → Stand → Type 0
ComesTo view files left plan old (Ok x) new = Given view files plan old (Ok x) new
ComesTo view files left plan old (Err halt) new = HaltsTo files left plan old halt new

-- The result of a call inside an expression, within these bounds.
pub record Comes {A B : Type 0} (view : B → A) (files : Files) (left : Bounds) (plan : Plan A) (old : Stand) (result : Result B Halt)
    (new : Stand) : Type 0 where
  pub comes : ComesTo view files left plan old result new

-- These are the trees of the code's expressions, by the table of names at the time when the code was made. The table only grows.
pub record Reads (ts : List ExpressionTree) (code : Code) (names : List (List ℕ)) : Type 0 where
  pub table : List (List ℕ)
  pub front : IsFront table names
  pub known : code.names ≤ length table
  pub are : ts ≡ trees table code.nodes.items

module _ {T O L : Type 0} where
  -- Holds if one of the devices has failed once more when the call's result says so, and else none has.
  abbrev pub FailsInside : {B : Type 0} → (T → TreeState) → (O → OutputState) → Context T O L → Result B Halt → Context T O L → Type 0
  FailsInside tree out old result new =
      ((tree old.tree.now).failures ≤ (tree new.tree.now).failures) × (((out old.out.now).failures ≤ (out new.out.now).failures)
      × ((tree new.tree.now).failures + (out new.out.now).failures
      ≡ failures_inside ((tree old.tree.now).failures + (out old.out.now).failures) result))

  -- Holds if the call does what this plan of the code's trees does. The plan takes what the run does to enter the folder that a text names.
  abbrev pub Evaluates : {A B : Type 0} → (T → TreeState) → (O → OutputState) → (B → A)
      → ((List ℕ → Plan Flow) → List ExpressionTree → Plan A) → Code → Context T O L → Result B Halt → Context T O L → Type 0
  Evaluates tree out view plan code old result new =
      (files : Files) (left : Bounds) (ts : List ExpressionTree) → Holds (tree old.tree.now) files → Reads ts code old.store.now.names
      → Comes view files left (plan (folder left) ts) (stand_of tree out old) result (stand_of tree out new)

  -- Holds if the call does what this plan does, which reads no code.
  abbrev pub Tries : {A B : Type 0} → (T → TreeState) → (O → OutputState) → (B → A) → ((List ℕ → Plan Flow) → Plan A)
      → Context T O L → Result B Halt → Context T O L → Type 0
  Tries tree out view plan old result new =
      (files : Files) (left : Bounds) → Holds (tree old.tree.now) files
      → Comes view files left (plan (folder left)) (stand_of tree out old) result (stand_of tree out new)
