-- Folders that are entered.
use Rattle.expressions.proofs.Evaluating.{leads_further, leads_next}
use Rattle.std.proofs.Common.{◌≡◌, Bool, ℕ, zero, suc, List, [], Result, Ok, Err, refl, subst}
use Rattle.support.specs.declared.faults.refusal.Refusal.{Refusal}
use Rattle.support.specs.declared.faults.refusal.Refusal.TheVariants as refusals
use Rattle.world.specs.Answering.{Refuses}
use Rattle.world.specs.Deed.{Files, refuse, read}
use Rattle.world.specs.Gives.{Holds}
use Rattle.world.specs.Plan.{Plan, deed, ruled, next, carry, give}
use Rattle.world.specs.World.{Facts, fault_here}
use Rattle.world.specs.declared.stop.Stop.{Stop}
use Rattle.world.proofs.Follow.{begun, refused_later}
use Rattle.world.proofs.Marks.{none_added}
use Rattle.expressions.specs.Contexts.{Stand, Given, seen_of, Leads}
use Rattle.interp.specs.Folders.{folder_by}
use Rattle.expressions.specs.Folders.{fresh, go_back, statements_of_folder}
use Rattle.interp.specs.Statements.{do_all}
use Rattle.interp.specs.declared.flow.Flow.{Flow}
use Rattle.interp.specs.declared.flow.Flow.TheVariants.{Next}

-- a folder that is fresh, at the place before
abbrev pub entered_from : Bool → ℕ → List ℕ → Facts → Plan Flow
entered_from few left path outer = next (statements_of_folder path) (λ body. next (ruled (do_all (folder_by few left) few body)) (λ _. next (go_back outer) (λ _. give Next)))

abbrev pub entered_fresh : Bool → ℕ → List ℕ → Plan Flow
entered_fresh few zero path = deed (refuse refusals.Limit [])
entered_fresh few (suc left) path = next (deed read) (entered_from few left path)

pub folder_is : (few : Bool) (left : ℕ) (text : List ℕ) → next (fresh text) (entered_fresh few left) ≡ folder_by few left text
folder_is few zero text = refl
folder_is few (suc left) text = refl

-- the place is read
pub leads_read : {A : Type 0} {files : Files} {others : Facts → Plan A} {s : Stand} → Holds s.tree files → Leads files (next (deed read) others) s (others s.world.facts) s
leads_read {files = files} {others = others} {s = s} h =
    leads_next {view = λ (f : Facts). f} {x = s.world.facts} (record { gives = record { is = refl; written = none_added (seen_of s) }; holds = h })

-- it is refused at the present place
pub given_refused_here : {A B : Type 0} {view : B → A} {files : Files} {refusal : Refusal} {detail : List ℕ} {s : Stand} (result : Result B Stop) → Holds s.tree files
    → Refuses (fault_here s.world refusal detail) result → Given view files (deed (refuse refusal detail)) s result s
given_refused_here (Ok x) h is = absurd is
given_refused_here {view = view} {files = files} {refusal = refusal} {detail = detail} {s = s} (Err e) h is = record {
  gives = refused_later view (fault_here s.world refusal detail) e s.world s.world (seen_of s) (begun (carry files (deed (refuse refusal detail)) s.world) (seen_of s)) is refl;
  holds = h;
}

-- a fresh folder, where one more may stand
pub leads_fresh : {C : Type 0} {view : C → List ℕ} {files : Files} {left k : ℕ} (few : Bool) (text : List ℕ) {s0 s1 : Stand} {path : C} → suc k ≡ left
    → Given view files (fresh text) s0 (Ok path) s1 → Leads files (folder_by few left text) s0 (entered_from few k (view path) s1.world.facts) s1
leads_fresh {view = view} {files = files} {k = k} few text {s0 = s0} {s1 = s1} {path = path} more g =
    subst (λ n. Leads files (folder_by few n text) s0 (entered_from few k (view path) s1.world.facts) s1) more
    (leads_further (leads_next {others = λ p. next (deed read) (entered_from few k p)} g) (leads_read g.holds))
