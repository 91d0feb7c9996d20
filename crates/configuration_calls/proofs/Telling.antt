-- Outputs that are told steps, against the act that tells them.
use Rattle.std.proofs.Common.{◌≡◌, ℕ, ◌+◌, true, false, List, [], Option, None, Result, Ok, Err, IsErrAnd, IsSome, refl, sym, subst, ◌∙◌}
use Rattle.std.proofs.Common.{arith}
use Rattle.support.specs.Faults.{FaultData}
use Rattle.ports.specs.Endings.{Failed}
use Rattle.ports.specs.Outputs.{IsOpen, OutputState, Sends, Step, Took, all, closing_steps, part}
use Rattle.ports.specs.Tree.{TreeState}
use Rattle.world.specs.Answering.{Acts, State, seen_at}
use Rattle.world.specs.Deed.{Files}
use Rattle.world.specs.Making.{Filling, filled_output, given_up, sent_steps}
use Rattle.world.specs.Run.{Act, follow, marks_of}
use Rattle.world.specs.Trace.{Begins, Seen, seen_from_parts}
use Rattle.world.specs.World.{World}
use Rattle.world.specs.declared.stop.Stop.{Stop}
use Rattle.world.specs.declared.stop.Stop.TheVariants as stops
use Rattle.world.proofs.Acting.{acts_stop}
use Rattle.world.proofs.Answering.{failures_after-as}
use Rattle.world.proofs.Follow.{device_stops}
use Rattle.world.proofs.Holding.{stays_here}
use Rattle.world.proofs.Marks.{none_added}
use Rattle.world.proofs.Tells.{begins_told, ends_told}

-- a beginning of the steps was taken
pub begins_part : (old new : Seen) (steps : List Step) (w : World) → Sends old.out new.out steps false → new.ticks ≡ old.ticks → new.names ≡ old.names → Begins (marks_of (sent_steps steps w)) old new
begins_part old new steps w (part sent left is taken) ticks names = begins_told old new steps sent left w is (all taken) ticks names

-- all steps were taken
pub acts_told : {B : Type 0} {view : B → Unit {0}} {steps : List Step} {w : World} {names : List (List ℕ)} {tree : TreeState} {out out1 : OutputState} {lent : ℕ × ℕ × ℕ} {x : B}
    → Sends out out1 steps true → out1.failures ≡ out.failures
    → Acts view (λ files. sent_steps steps) (record { world = w; names = names; tree = tree; out = out; lent = lent }) (Ok x) (record { world = w; names = names; tree = tree; out = out1; lent = lent })
acts_told {steps = steps} {w = w} {names = names} {tree = tree} {out = out} {out1 = out1} sent none = record {
  gives = λ files n h. ends_told (seen_from_parts out n names) (seen_from_parts out1 n names) steps w sent refl refl;
  stays = stays_here tree;
  device = record { tree = omega arith; out = omega (arith, none); sum = omega (arith, none) };
  same = refl;
}

-- a device failed
pub acts_untold : {B : Type 0} {view : B → Unit {0}} {steps : List Step} {w : World} {names : List (List ℕ)} {tree : TreeState} {out out1 : OutputState} {lent : ℕ × ℕ × ℕ} {result : Result B Stop}
    → Sends out out1 steps false → out1.failures ≡ out.failures + 1 → IsErrAnd result (λ e. e ≡ stops.Device)
    → Acts view (λ files. sent_steps steps) (record { world = w; names = names; tree = tree; out = out; lent = lent }) result (record { world = w; names = names; tree = tree; out = out1; lent = lent })
acts_untold {B = B} {view = view} {steps = steps} {w = w} {names = names} {tree = tree} {out = out} {out1 = out1} {result = result} sent once is = record {
  gives = λ files n h. device_stops view (sent_steps steps w) w (seen_from_parts out n names) (seen_from_parts out1 n names) result is (begins_part (seen_from_parts out n names) (seen_from_parts out1 n names) steps w sent refl refl);
  stays = stays_here tree;
  device = record { tree = omega arith; out = omega (arith, once); sum = let m : ℕ = tree.failures + out.failures in let e : tree.failures + out1.failures ≡ m + 1 = omega (arith, once) in e ∙ sym (failures_after-as B m result stops.Device is) };
  same = refl;
}

-- one call of the outputs, which took no step
pub nothing_sent : {old new : OutputState} (steps : List Step) → Took old [] Failed new → Sends old new steps false
nothing_sent steps t = part [] steps refl t.takes

-- what was open is open still
pub still_open : {old new : OutputState} → IsOpen old → new.open_name ≡ old.open_name → new.failures ≡ old.failures → IsOpen new
still_open o name none = record { room = omega (arith, o.room, none); name = subst (λ n. IsSome n) (sym name) o.name }

-- what is filled is not given up
pub acts_kept : {B : Type 0} {view : B → Unit {0}} {s : State} {x : B} → Acts view (λ files. given_up None) s (Ok x) s
acts_kept {s = s} = record {
  gives = λ files n h. record { is = refl; written = none_added (seen_at s n) };
  stays = stays_here s.tree;
  device = record { tree = omega arith; out = omega arith; sum = refl };
  same = refl;
}

-- a device failed while it was filled
pub acts_unfilled : {B : Type 0} {view : B → Unit {0}} {steps : List Step} (fault : Option FaultData) {w : World} {names : List (List ℕ)} {tree : TreeState} {out out1 : OutputState} {lent : ℕ × ℕ × ℕ} {result : Result B Stop}
    → Sends out out1 steps false → out1.failures ≡ out.failures + 1 → IsErrAnd result (λ e. e ≡ stops.Device)
    → Acts view (λ files v. follow (sent_steps steps v) (λ _. given_up fault)) (record { world = w; names = names; tree = tree; out = out; lent = lent }) result (record { world = w; names = names; tree = tree; out = out1; lent = lent })
acts_unfilled fault sent once is = acts_stop (λ files _. given_up fault) (acts_untold {B = Unit {0}} {view = λ u. u} {result = Err stops.Device} sent once refl) is

-- ---- what follows one another as an output is written

abbrev pub fill_then : (Files → Filling) → Files → Unit {0} → Act (Unit {0})
fill_then filling files _ v = follow (filled_output (filling files) v) (λ _. sent_steps closing_steps)

abbrev pub close_then : Files → Unit {0} → Act (Unit {0})
close_then files _ = sent_steps closing_steps
