-- Defines a whole evaluation, from the root file on.
use Rattle.std.specs.Prelude.{ℕ, Bool, true, false, List, [], codes, bytes_eq, Ok, Err}
use Rattle.syntax.specs.ExpressionTree.{ExpressionTree, FunctionTree}
use Rattle.syntax.specs.Tree.{StatementTree, AssignTree, AppendTree, ValueTree, BreakTree, ContinueTree, IfTree, ForeachTree, Statements}
use Rattle.syntax.specs.Tree.{NoStatement, MoreStatements}
use Rattle.support.specs.declared.faults.refusal.Refusal.TheVariants as refusals
use Rattle.world.specs.Details.{refuse_about}
pub use Rattle.machine_file.specs.Answers.{IsSaid, MachineSaid}
use Rattle.machine_file.specs.Files.{Section}
use Rattle.world.specs.Deed.{Files}
use Rattle.world.specs.Plan.{Plan, carry, deed, ruled, ◌>>=◌, give, refuse}
use Rattle.world.specs.Run.{Run}
use Rattle.world.specs.Settings.{SettingsData}
use Rattle.world.specs.Start.{first_world}
use Rattle.interp.specs.Bounds.{bounds}
use Rattle.expressions.specs.Folders.{statements_of_folder}
use Rattle.interp.specs.Folders.{folder}
use Rattle.interp.specs.declared.flow.Flow.{Flow}
use Rattle.interp.specs.Statements.{do_all}

-- ---- the root file begins with a call of `project`

-- Refuses at a line unless the file begins with a call of `project`.
abbrev pub begun_by : ℕ → Bool → Plan (Unit {0})
begun_by line true = give tt
begun_by line false = refuse line refusals.ProjectCall []

-- Returns whether an expression is a call of `project`.
abbrev pub is_project : ExpressionTree → Bool
is_project (FunctionTree name es line) = bytes_eq name (codes "project")
is_project e = false

-- Refuses a statement that is no call of `project`.
abbrev pub begins : StatementTree → Plan (Unit {0})
begins (ValueTree e line) = begun_by line (is_project e)
begins (AssignTree name line value) = begun_by line false
begins (AppendTree name line value) = begun_by line false
begins (BreakTree line) = begun_by line false
begins (ContinueTree line) = begun_by line false
begins (IfTree line branches otherwise) = begun_by line false
begins (ForeachTree line first second items items_line body) = begun_by line false

-- Refuses statements of which the first is no call of `project`.
abbrev pub begins_all : Statements → Plan (Unit {0})
begins_all NoStatement = begun_by 1 false
begins_all (MoreStatements s ss) = begins s

-- Runs the statements of the root file. Folders may be nested 63 deep below the root.
abbrev pub root : Bool → Statements → Plan Flow
root few ss = do
  _ ← begins_all ss
  do_all (folder (bounds few 63)) few ss

-- Returns the sections of a machine file, or none if it has a fault.
abbrev pub sections_of : MachineSaid → List Section
sections_of (Ok sections) = sections
sections_of (Err fault) = []

-- Runs the definition files, from the root file on. `few`: a loop over more than 65,536 values is refused.
abbrev pub plan_of_definitions : Bool → Plan (Unit {0})
plan_of_definitions few = do
  body ← statements_of_folder []
  _ ← ruled (root few body)
  give tt

-- Runs the definition files. Loops have no limit of their own.
abbrev pub definitions : Plan (Unit {0})
definitions = plan_of_definitions false

-- Runs the definition files if the machine file has sections. Otherwise it refuses: a fault of the machine file is at its line of `<machine
-- file>`, with its details.
abbrev pub evaluation : Bool → MachineSaid → Plan (Unit {0})
evaluation few (Ok sections) = plan_of_definitions few
evaluation few (Err fault) = deed (refuse_about (codes "<machine file>") fault.line fault.refusal fault.detail)

-- Returns the whole evaluation of these files, with these settings and this reading of a machine file.
unfoldable pub evaluated_files : Files → SettingsData → MachineSaid → Run (Unit {0})
evaluated_files files s said = carry files (evaluation false said) (first_world s (sections_of said))

-- Returns the same evaluation with loops over more than 65,536 values refused.
unfoldable pub evaluated_few : Files → SettingsData → MachineSaid → Run (Unit {0})
evaluated_few files s said = carry files (evaluation true said) (first_world s (sections_of said))
