-- Defines how an evaluation begins.
use Rattle.std.specs.Prelude.{◌≡◌, ℕ, Bool, true, false, List, [], Option, Some, None, Result, Ok, Err}
use Rattle.syntax.specs.Tree.{StatementTree, AssignTree, AppendTree, ValueTree, BreakTree, ContinueTree, IfTree, ForeachTree, Statements}
use Rattle.syntax.specs.Tree.{NoStatement, MoreStatements}
use Rattle.support.specs.View.{fault_view}
use Rattle.support.specs.declared.faults.refusal.Refusal.TheVariants as refusals
use Rattle.machine_file.specs.Fault.{fault_of_machine_file}
use Rattle.machine_file.specs.Files.{Section}
use Rattle.ports.specs.Outputs.{OutputState}
use Rattle.world.specs.Deed.{Files}
use Rattle.world.specs.Gives.{Gives}
use Rattle.world.specs.Plan.{Plan, carry, give, refuse}
use Rattle.world.specs.Settings.{SettingsData}
use Rattle.world.specs.Start.{first_world}
use Rattle.world.specs.Store.{Kept, world_of}
use Rattle.world.specs.Trace.{seen_from_parts}
use Rattle.world.specs.declared.stop.Stop.{Stop}
use Rattle.world.specs.declared.stop.Stop.TheVariants as stops
use Rattle.interp.specs.Evaluation.{MachineSaid, plan_of_definitions, definitions, is_project}

-- Returns the line of a statement that is no call of `project`.
abbrev pub line_unless : ℕ → Bool → Option ℕ
line_unless line true = None
line_unless line false = Some line

-- Returns the line of a statement, or `None` if it is a call of `project`.
abbrev pub other_line : StatementTree → Option ℕ
other_line (ValueTree e line) = line_unless line (is_project e)
other_line (AssignTree name line value) = Some line
other_line (AppendTree name line value) = Some line
other_line (BreakTree line) = Some line
other_line (ContinueTree line) = Some line
other_line (IfTree line branches otherwise) = Some line
other_line (ForeachTree line first second items items_line body) = Some line

-- Returns the line at which a file should begin with a call of `project`, or `None` if it does begin with one.
abbrev pub line_before : Statements → Option ℕ
line_before NoStatement = Some 1
line_before (MoreStatements s ss) = other_line s

-- Refuses at that line.
abbrev pub begun_at : Option ℕ → Plan (Unit {0})
begun_at None = give tt
begun_at (Some line) = refuse line refusals.ProjectCall []

-- Relates the reading of a machine file to the result: it was read, or it is refused.
abbrev pub Reads : {A : Type 0} → (A → List Section) → MachineSaid → Result A Stop → Type 0
Reads view (Ok sections) (Ok x) = view x ≡ sections
Reads view (Ok sections) (Err (stops.Refused fault)) = ⊥
Reads view (Err f) (Ok x) = ⊥
Reads view (Err f) (Err (stops.Refused fault)) = fault_view fault ≡ fault_of_machine_file f
Reads view said (Err stops.Device) = ⊥
Reads view said (Err stops.Memory) = Unit {0}

-- Relates the reading of a machine file to the world before the root file, or to its refusal.
abbrev pub Starts : SettingsData → MachineSaid → Result Kept Stop → Type 0
Starts s (Ok sections) (Ok kept) = world_of kept ≡ first_world s sections
Starts s (Ok sections) (Err (stops.Refused fault)) = ⊥
Starts s (Err f) (Ok kept) = ⊥
Starts s (Err f) (Err (stops.Refused fault)) = fault_view fault ≡ fault_of_machine_file f
Starts s said (Err stops.Device) = ⊥
Starts s said (Err stops.Memory) = Unit {0}

-- Over these files, a call did what the root file does, from one store to another. It also did so with long loops refused.
pub record RootGives (files : Files) (old : Kept) (out : OutputState) (ticks : ℕ) (result : Result (Unit {0})
    Stop) (new : Kept) (out_now : OutputState) (ticks_now : ℕ) : Type 0 where
  pub gives : Gives (λ u. u) (carry files definitions (world_of old)) result (world_of new) (seen_from_parts out ticks old.names)
      (seen_from_parts out_now ticks_now new.names)
  pub few : Gives (λ u. u) (carry files (plan_of_definitions true) (world_of old)) result (world_of new)
      (seen_from_parts out ticks old.names)
      (seen_from_parts out_now ticks_now new.names)
