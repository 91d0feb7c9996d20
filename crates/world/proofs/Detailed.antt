-- Refusals at other places than that of the call, and what they are about.
use Rattle.std.proofs.Common.{◌≡◌, ℕ, List, [], Err, refl}
use Rattle.support.specs.Faults.{FaultData}
use Rattle.support.specs.View.{fault_view}
use Rattle.support.specs.declared.faults.fault.Fault.{Fault}
use Rattle.support.specs.declared.faults.refusal.Refusal.{Refusal}
use Rattle.world.specs.Answering.{State, Carries, seen_at}
use Rattle.world.specs.World.{with_facts, with_place}
use Rattle.world.specs.declared.stop.Stop.TheVariants as stops
use Rattle.world.proofs.Answering.{no_failure}
use Rattle.world.proofs.Follow.{begun, refused_later}
use Rattle.world.proofs.Holding.{stays_here}
use Rattle.world.specs.Details.{refuse_about}

abbrev pub told_at : List ℕ → ℕ → Refusal → List ℕ → FaultData
told_at file line refusal detail = record { file = file; line = line; refusal = refusal; detail = detail }

-- a fault of another place, and what it is about
pub carries_refused_about : {A B : Type 0} {view : B → A} (file : List ℕ) (line : ℕ) (refusal : Refusal) (detail : List ℕ)
    {s : State} (fault : Fault) → fault_view fault ≡ told_at file line refusal detail
    → Carries view (refuse_about file line refusal detail) s (Err (stops.Refused fault)) s
unfolding refuse_about
carries_refused_about {view = view} file line refusal detail {s = s} fault is = record {
  gives = λ files n h. refused_later view (told_at file line refusal detail) (stops.Refused fault)
      (with_facts s.world (with_place file [] line s.world.facts)) s.world (seen_at s n) (begun _ (seen_at s n)) is refl;
  stays = stays_here s.tree;
  device = no_failure (λ n. refl);
  same = refl;
}
