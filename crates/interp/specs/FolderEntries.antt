-- Defines how folders are entered inside an expression.
use Rattle.std.specs.Prelude.{◌≡◌, ℕ, zero, suc, ◌+◌, [], Result, Ok, Err, string_bytes}
use Rattle.support.specs.declared.faults.refusal.Refusal.TheVariants as refusals
use Rattle.world.specs.Gives.{failures_after, is_ended}
use Rattle.world.specs.Plan.{Plan, ruled, ◌>>=◌, refuse}
use Rattle.world.specs.declared.stop.Stop.TheVariants as stops
use Rattle.interp.specs.declared.halt.Halt.{Halt}
use Rattle.interp.specs.declared.halt.Halt.TheVariants as halts
use Rattle.interp.specs.declared.halt.FolderEntry.{FolderEntry}
use Rattle.interp.specs.Bounds.{Bounds}
use Rattle.interp.specs.Folders.{folder}

-- Ends this many rules after a plan.
abbrev pub ended_all : {A : Type 0} → ℕ → Plan A → Plan A
ended_all zero p = p
ended_all (suc n) p = ruled (ended_all n p)

-- Enters the folder and runs its definition file, within these bounds. The call has no value, so it is refused then.
abbrev pub enters : {A : Type 0} → Bounds → FolderEntry → Plan A
enters left entry = folder left (string_bytes entry.text) >>= λ _. refuse entry.line refusals.Type []

-- Enters the folder as `enters` does, and then ends the rules of the expression that the call is part of.
abbrev pub folder_in_expression : {A : Type 0} → Bounds → FolderEntry → Plan A
folder_in_expression left entry = ended_all entry.rules (enters left entry)

-- ---- the ends of rules

-- Holds if one more rule ends after the folder, unless the count exceeds 64 bits.
abbrev pub IsDeeper : FolderEntry → Halt → Type 0
IsDeeper entry (halts.Stops stop) = stop ≡ stops.Memory
IsDeeper entry (halts.Enters now) = now.value ≡ record { text = entry.text; line = entry.line; rules = entry.rules + 1 }

-- Relates a halt before and after the end of a rule, and the counter.
abbrev pub HaltEnds : Halt → ℕ → Halt → ℕ → Type 0
HaltEnds (halts.Stops stop) old now new = (now ≡ halts.Stops stop) × (new ≡ old + is_ended {B = Unit {0}} (Err stop))
HaltEnds (halts.Enters entry) old now new = IsDeeper entry.value now × (new ≡ old)

-- Relates the result of a node before and after the end of its rule, and the counter. The counter rises if the rule has ended. If the
-- expression was left, the rule is still to end.
abbrev pub RuleEnds : {B : Type 0} → Result B Halt → ℕ → Result B Halt → ℕ → Type 0
RuleEnds (Ok x) old result new = (result ≡ Ok x) × (new ≡ old + 1)
RuleEnds (Err halt) old (Ok x) new = ⊥
RuleEnds (Err halt) old (Err now) new = HaltEnds halt old now new

-- ---- devices

-- Returns the count of the devices' failures after a call that may have met one more.
abbrev pub failures_halted : ℕ → Halt → ℕ
failures_halted n (halts.Stops stop) = failures_after {B = Unit {0}} n (Err stop)
failures_halted n (halts.Enters entry) = n

-- Returns the count of the devices' failures after a call that may have met one more, or was left for a folder.
abbrev pub failures_inside : {B : Type 0} → ℕ → Result B Halt → ℕ
failures_inside n (Ok x) = n
failures_inside n (Err halt) = failures_halted n halt
