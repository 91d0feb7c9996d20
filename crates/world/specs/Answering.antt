-- Relates the result of a call to its deed or plan, in a world and over devices.
use Rattle.std.specs.Prelude.{◌≡◌, ℕ, ◌+◌, ◌<◌, ◌≤◌, ◌^◌, List, [], Result, Ok, Err, string_bytes}
use Rattle.ports.specs.Outputs.{OutputState}
use Rattle.ports.specs.Tree.{TreeState, Stays}
use Rattle.values.specs.declared.refusal.OperationRefusal.{OperationRefusal as OperationRefusal}
use Rattle.support.specs.Faults.{FaultData}
use Rattle.build.specs.declared.project.refusal.ProjectError.{ProjectError}
use Rattle.template.specs.declared.config.SetStop.{SetStop}
use Rattle.template.specs.declared.config.SetStop.TheVariants as set_stops
use Rattle.world.specs.Operation.{of_operation}
use Rattle.world.specs.Run.{Act}
use Rattle.world.specs.World.{World, fault_here}
use Rattle.world.specs.Trace.{Seen, seen_from_parts}
use Rattle.world.specs.Gives.{Gives, Holds, Continues, IsRefusal, failures_after}
use Rattle.world.specs.Deed.{Files, Deed, perform}
use Rattle.world.specs.Ruled.{broken_by}
use Rattle.arguments.specs.declared.refused.ArgumentError.{ArgumentError as RefusedArguments}
use Rattle.arguments.specs.declared.rule.Rule.{Rule}
use Rattle.support.specs.declared.faults.refusal.Refusal.{Refusal}
use Rattle.support.specs.declared.faults.refusal.Refusal.TheVariants as refusals
use Rattle.world.specs.declared.stop.Stop.{Stop}
use Rattle.world.specs.declared.stop.Stop.TheVariants as stops

-- The state of a call: the world, the table of names, the views of the devices, and the names of the references that hold them.
pub record State : Type 0 where
  pub world : World
  pub names : List (List ℕ)
  pub tree : TreeState
  pub out : OutputState
  pub lent : ℕ × ℕ × ℕ

-- Returns the parts of a state that marks change: the outputs, the counter at `n`, and the table of names.
abbrev pub seen_at : State → ℕ → Seen
seen_at s n = seen_from_parts s.out n s.names

-- Holds if each device can count one more failure.
pub record HasRoom (s : State) : Type 0 where
  pub tree : s.tree.failures + 1 < 2 ^ 64
  pub out : s.out.failures + 1 < 2 ^ 64

-- Holds if one of the devices counted one more failure when the call says that a device failed, and none did otherwise.
pub record Fails {B : Type 0} (old : State) (result : Result B Stop) (new : State) : Type 0 where
  pub tree : old.tree.failures ≤ new.tree.failures
  pub out : old.out.failures ≤ new.out.failures
  -- The sum of both counts rises by one if a device failed, and stays the same otherwise.
  pub sum : new.tree.failures + new.out.failures ≡ failures_after (old.tree.failures + old.out.failures) result

-- Holds if the call ended as the deed does in this state, or stopped after a prefix of the deed's output steps.
pub record Carries {A B : Type 0} (view : B → A) (deed : Deed A) (old : State) (result : Result B Stop) (new : State) : Type 0 where
  -- If the tree is steady and has these files, the call ended as the deed does, or stopped after a prefix of its output steps.
  pub gives : (files : Files) (n : ℕ) → Holds old.tree files
      → Gives view (perform files deed old.world) result new.world (seen_at old n) (seen_at new n)
  -- A steady tree stays unchanged.
  pub stays : Stays old.tree new.tree
  -- One failure is counted if the call says that a device failed, and none otherwise.
  pub device : Fails old result new
  -- The state is kept in the same references as before.
  pub same : new.lent ≡ old.lent

-- Holds if the call ended as the act for these files does, or stopped after a prefix of the act's output steps.
pub record Acts {A B : Type 0} (view : B → A) (act : Files → Act A) (old : State) (result : Result B Stop) (new : State) : Type 0 where
  -- If the tree is steady and has these files, the call ended as the act does, or stopped after a prefix of its output steps.
  pub gives : (files : Files) (n : ℕ) → Holds old.tree files
      → Gives view (act files old.world) result new.world (seen_at old n) (seen_at new n)
  -- A steady tree stays unchanged.
  pub stays : Stays old.tree new.tree
  -- One failure is counted if the call says that a device failed, and none otherwise.
  pub device : Fails old result new
  -- The state is kept in the same references as before.
  pub same : new.lent ≡ old.lent

-- Holds if a deed was done up to the point where `rest` is left of it.
pub record Leads {A : Type 0} (whole : Deed A) (old : State) (rest : Deed A) (now : State) : Type 0 where
  -- If the tree is steady and has these files, the run of the whole deed is the marks so far and the run of the rest.
  pub gives : (files : Files) (n : ℕ) → Holds old.tree files
      → Continues (perform files whole old.world) (perform files rest now.world) (seen_at old n) (seen_at now n)
  -- A steady tree stays unchanged.
  pub stays : Stays old.tree now.tree
  -- No failure of the tree was counted.
  pub tree : old.tree.failures ≡ now.tree.failures
  -- No failure of the outputs was counted.
  pub out : old.out.failures ≡ now.out.failures
  -- The state is kept in the same references as before.
  pub same : now.lent ≡ old.lent

-- Holds if the call returned this fault, or ran out of memory while it made it.
abbrev pub Refuses : {B : Type 0} → FaultData → Result B Stop → Type 0
Refuses f (Ok x) = ⊥
Refuses f (Err s) = IsRefusal s f

-- Holds if the call passed on the value of an operation, or its refusal.
abbrev pub IsAnswered : {B : Type 0} → World → Result B OperationRefusal → Result B Stop → Type 0
IsAnswered w (Ok x) result = result ≡ Ok x
IsAnswered w (Err refusal) result = Refuses (fault_here w (of_operation refusal) []) result

-- Holds if the call passed on the value of an operation, or its refusal. A refusal of the arguments names this rule.
abbrev pub IsAnsweredBy : {B : Type 0} → World → Rule → List ℕ → Result B OperationRefusal → Result B Stop → Type 0
IsAnsweredBy w rule text (Ok x) result = result ≡ Ok x
IsAnsweredBy w rule text (Err refusal) result = Refuses (fault_here w (of_operation refusal) (broken_by rule text refusal)) result

-- Holds if the call passed on the value of a check of arguments, or its refusal.
abbrev pub IsFitting : {B : Type 0} → World → Result B Refusal → Result B Stop → Type 0
IsFitting w (Ok x) result = result ≡ Ok x
IsFitting w (Err refusal) result = Refuses (fault_here w refusal []) result

-- Holds if the call passed on the result of reading the arguments, or their refusal with its detail.
abbrev pub IsPassed : {B : Type 0} → World → Result B RefusedArguments → Result B Stop → Type 0
IsPassed w (Ok x) result = result ≡ Ok x
IsPassed w (Err refused) result = Refuses (fault_here w refused.refusal (string_bytes refused.detail)) result

-- Holds if the call passed on the result of the project, or its refusal with its detail.
abbrev pub IsAllowed : {B : Type 0} → World → Result B ProjectError → Result B Stop → Type 0
IsAllowed w (Ok x) result = result ≡ Ok x
IsAllowed w (Err refused) result = Refuses (fault_here w refused.why (string_bytes refused.detail)) result

-- Holds if configuration data was changed, or the call is refused since the data is frozen, or memory ran out.
abbrev pub IsConfigured : World → Result (Unit {0}) SetStop → Result (Unit {0}) Stop → Type 0
IsConfigured w (Ok u) result = result ≡ Ok u
IsConfigured w (Err set_stops.Frozen) result = Refuses (fault_here w refusals.Frozen []) result
IsConfigured w (Err set_stops.Memory) result = result ≡ Err stops.Memory

-- Holds if an operation returned the result of its definition, seen through this view.
abbrev pub Views : {A B R : Type 0} → (B → A) → Result A R → Result B R → Type 0
Views view given (Ok x) = given ≡ Ok (view x)
Views view given (Err refusal) = given ≡ Err refusal
