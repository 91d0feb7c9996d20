-- Targets that are written one after another.
use Rattle.std.proofs.Common.{◌≡◌, ℕ, ◌+◌, ◌-◌, ◌<◌, List, length, Result, Err, IsErrAnd, sym, ap, subst, ◌∙◌}
use Rattle.std.proofs.lemmas.List.{length-map}
use Rattle.ports.specs.Endings.{Whole}
use Rattle.ports.specs.Outputs.{OutputState, Writes}
use Rattle.ports.proofs.Sending.{writes_then}
use Rattle.build.specs.Libraries.{linked_of}
use Rattle.build.specs.DeclaredTargetViews.{declared_target_views}
use Rattle.build.specs.View.{target_view}
use Rattle.build.specs.declared.declared_target.DeclaredTarget.{DeclaredTarget}
use Rattle.build.proofs.LinkedLists.{kept_targets}
use Rattle.build.specs.project.World.{WorldData}
use Rattle.backend.specs.BuildFile.{ending_of}
use Rattle.backend.specs.Parts.{target_steps, targets_steps}
use Rattle.backend.specs.declared.stop.WriteStop.{WriteStop}
use Rattle.backend.proofs.Parts.{first_steps, steps_after, steps_more, steps_cut, steps_all}
use Rattle.backend.proofs.Stopping.{writes_ends}

pub kept_count : (kept : List DeclaredTarget) (w : WorldData) → declared_target_views kept ≡ linked_of w.targets → length kept ≡ length w.targets
kept_count kept w e = sym (length-map kept (λ (l : DeclaredTarget). target_view l.target)) ∙ ap length (kept_targets kept w.targets e)

-- one target more
pub targets_next : (w : WorldData) (n : ℕ) {old mid new : OutputState}
    → Writes old (first_steps w n) Whole mid → Writes mid (target_steps w n) Whole new → Writes old (first_steps w (n + 1)) Whole new
targets_next w n {old} {mid} {new} s t = subst (λ run. Writes old run Whole new) (sym (steps_more w n)) (writes_then s t)

-- where a target's run stopped
pub targets_stop : {B : Type 0} (w : WorldData) (n : ℕ) {old mid new : OutputState} (r : Result B WriteStop) (x : WriteStop) → n < length w.targets
    → Writes old (first_steps w n) Whole mid → Writes mid (target_steps w n) (ending_of {B = Unit {0}} (Err x)) new → IsErrAnd r (λ e. e ≡ x)
    → Writes old (targets_steps w) (ending_of r) new
targets_stop w n {old} {mid} {new} r x within s t e =
    subst (λ run. Writes old run (ending_of r) new) (sym (steps_cut w n within)) (writes_then s (writes_ends r x (steps_after w (n + 1) (length w.targets - (n + 1))) e t))

pub targets_end : (w : WorldData) (n : ℕ) {old new : OutputState} → n ≡ length w.targets → Writes old (first_steps w n) Whole new → Writes old (targets_steps w) Whole new
targets_end w n {old} {new} e s = subst (λ run. Writes old run Whole new) (steps_all w n e) s
