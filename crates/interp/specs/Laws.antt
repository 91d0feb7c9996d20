-- States what holds of every evaluation.
use Rattle.std.specs.Prelude.{◌≡◌, ℕ, ◌≤◌, IsTrue, List, Option, None, Some, Ok, Err}
use Rattle.arguments.specs.Arguments.{ArgumentsData}
use Rattle.expressions.specs.Forms.{function_inside}
use Rattle.values.specs.Data.{Data}
use Rattle.world.specs.Deed.{Files, perform}
use Rattle.world.specs.Look.{Agree, AgreeOn, ran_over}
use Rattle.world.specs.Made.{ClosesOutputs}
use Rattle.world.specs.Noted.{NotesLooks, PresentAreFiles}
use Rattle.world.specs.Plan.{Plan, ◌>>=◌, carry, give}
use Rattle.world.specs.Run.{marks_of, world_after}
use Rattle.world.specs.Settings.{SettingsData}
use Rattle.world.specs.Trace.{ends_of}
use Rattle.world.specs.World.{Asked, World}
use Rattle.interp.specs.ByName.{call_by_name}
use Rattle.interp.specs.Cost.{tree_cost}
use Rattle.interp.specs.Expressions.{plan_of_call, method_of}
use Rattle.interp.specs.Evaluation.{IsSaid, MachineSaid, evaluated_files, evaluated_few, sections_of}

-- Holds if two machine files agree on these questions: both have sections that give the same answers, or both have the same fault.
abbrev pub SayAlike : MachineSaid → MachineSaid → List Asked → Type 0
SayAlike (Ok sections) (Ok others) asked = AgreeOn sections others asked
SayAlike (Ok sections) (Err fault) asked = ⊥
SayAlike (Err fault) (Ok others) asked = ⊥
SayAlike (Err fault) (Err other) asked = other ≡ fault

-- Take two trees that agree on the paths that the evaluation of the first looks at, and two machine files that agree on the questions that
-- it asks. Then both evaluations are equal: in outcome, in the marks, and in the world after it, except for the parts of the machine file
-- that no question is about.
abbrev pub DependsOnLooked : Type 0
DependsOnLooked = (f g : Files) (settings : SettingsData) (said other : MachineSaid)
    → Agree f g (world_after (evaluated_files f settings said)).looked
    → SayAlike said other (world_after (evaluated_files f settings said)).asked
    → evaluated_files g settings other ≡ ran_over (sections_of other) (evaluated_files f settings said)

-- After an evaluation the project has noted the paths that were looked at: each once, in the order of the first look, as present or absent.
pub record NotesWhatItLooksAt : Type 0 where
  pub looks : (files : Files) (settings : SettingsData) (said : MachineSaid)
      → NotesLooks files (world_after (evaluated_files files settings said))
  pub present : (files : Files) (settings : SettingsData) (said : MachineSaid)
      → PresentAreFiles files (world_after (evaluated_files files settings said))

-- After a successful evaluation each output of `configure_file` has been closed.
abbrev pub ClosesWhatItMakes : Type 0
ClosesWhatItMakes = (files : Files) (settings : SettingsData) (said : MachineSaid) → ClosesOutputs (evaluated_files files settings said)

-- An evaluation in which no loop is over more than 65,536 values ends at most as many rules as its tree of files costs.
abbrev pub StepsWithinCost : Type 0
StepsWithinCost = (files : Files) (settings : SettingsData) (said : MachineSaid)
    → ends_of (marks_of (evaluated_few files settings said)) ≤ tree_cost files

-- Bytes have exactly one reading as a machine file.
pub record MachineFilesSay : Type 0 where
  pub something : (bytes : List ℕ) → (said : MachineSaid) × IsSaid bytes said
  pub once : (bytes : List ℕ) (said other : MachineSaid) → IsSaid bytes said → IsSaid bytes other → said ≡ other

-- Returns what evaluation does for a call at a line, inside an expression, with these argument values.
abbrev pub evaluated_call : ℕ → Option Data → List ℕ → ArgumentsData → Plan (Option Data)
evaluated_call line None name a = function_inside line name >>= λ f. plan_of_call line f a
evaluated_call line (Some d) name a = method_of line d name (give a)

-- After `project` was called, a call by a name equals the evaluation of that call at the present line. The outcome, the world after it and
-- the marks are the same.
abbrev pub CallsAsEvaluated : Type 0
CallsAsEvaluated = (files : Files) (w : World) (receiver : Option Data) (name : List ℕ) (a : ArgumentsData) → IsTrue w.facts.is_begun
    → perform files (call_by_name receiver name a) w ≡ carry files (evaluated_call w.facts.line receiver name a) w
