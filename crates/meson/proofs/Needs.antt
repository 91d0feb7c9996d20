-- What the edges of a run's project need is there.
use Rattle.std.proofs.Common.{◌≡◌, true, List, [], ◌∷◌, ◌++◌, map, Option, sym, ap, ◌∙◌}
use Rattle.std.specs.Prelude.{bytes_eq}
use Rattle.std.proofs.lemmas.Bool.{false≢true}
use Rattle.std.proofs.lemmas.Slice.Eq.{bytes_eq-Decides}
use Rattle.build.specs.edge.Paths.{source_path}
use Rattle.build.specs.edge.Texts.{Path, holds}
use Rattle.ninja.specs.Reading.{BuildEdge}
use Rattle.build.specs.project.Laws.{all_held}
use Rattle.build.specs.project.World.{known_in}
use Rattle.build.proofs.EdgeOrder.{both, holds_append, holds_left, holds_right, list_all-weaker, or_cases, split_and}
use Rattle.backend.specs.FileEdges.{are_made, made_by, needed_by}
use Rattle.backend.specs.Means.{edges_read}
use Rattle.world.specs.Made.{ClosesOutputs, closed_by}
use Rattle.world.specs.Run.{Run, ran, Done, Faulted, marks_of, outcome_of, world_after}
use Rattle.world.specs.Trace.{steps_of}
use Rattle.interp.specs.Evaluation.{evaluated_files}
use Rattle.interp.specs.Laws.{ClosesWhatItMakes}
use Rattle.meson.specs.Laws.{ListsWhatItLooksAt, NeedsAreThere, closed_in, files_seen}
use Rattle.meson.specs.Setup.{project_of}

cases : (p : Path) (xs ys : List Path) → holds p (xs ++ ys) ≡ true → {P : Type 0} → (holds p xs ≡ true → P) → (holds p ys ≡ true → P) → P
cases p xs ys h = or_cases (holds p xs) (holds p ys) (sym (holds_append p xs ys) ∙ h)

-- what holds of each path of a list holds of one
held_one : (known ps : List Path) → all_held known ps ≡ true → (p : Path) → holds p ps ≡ true → holds p known ≡ true
held_one known [] all p h = absurd (false≢true h)
held_one known (q ∷ ps) all p h =
    let s = split_and (holds q known) (all_held known ps) all in
    or_cases (bytes_eq p q) (holds p ps) h (λ e. ap (λ x. holds x known) ((bytes_eq-Decides p q).0 e) ∙ s.0) (λ e. held_one known ps s.1 p e)

-- what is known may grow
made_grown : (xs ys : List Path) → ((p : Path) → holds p xs ≡ true → holds p ys ≡ true) → (es : List BuildEdge) → are_made xs es ≡ true → are_made ys es ≡ true
made_grown xs ys more [] made = made
made_grown xs ys more (e ∷ es) made =
    let s = split_and (all_held xs (needed_by e)) (are_made (xs ++ made_by e) es) made in
    both (all_held ys (needed_by e)) (are_made (ys ++ made_by e) es) (list_all-weaker (λ p. holds p xs) (λ p. holds p ys) more (needed_by e) s.0)
    (made_grown (xs ++ made_by e) (ys ++ made_by e) (λ p h. cases p xs (made_by e) h (λ f. holds_left p ys (made_by e) (more p f)) (λ f. holds_right p ys (made_by e) f)) es s.1)

-- what a run makes that is done is closed
outputs_closed : (r : Run (Unit {0})) (before : Option Path) → outcome_of r ≡ Done tt → ClosesOutputs r → all_held (closed_by before (steps_of (marks_of r))) (world_after r).facts.project.outputs ≡ true
outputs_closed (ran (Done u) w ms) before is h = h before
outputs_closed (ran (Faulted f) w ms) before is h = absurd (let d : Faulted f ≡ Done tt = is in cc)

pub there : ListsWhatItLooksAt → ClosesWhatItMakes → NeedsAreThere
there lists closes f s said is means before =
    let w = project_of f s said in
    let closed = closed_in f s said before in
    let seen : map (source_path w.surroundings.facts.depth) w.present ≡ files_seen f s said = ap (map (source_path w.surroundings.facts.depth)) (lists.present f s said) in
    let held = outputs_closed (evaluated_files f s said) before is (closes f s said) in
    made_grown (known_in w) (files_seen f s said ++ closed)
    (λ p h. cases p (map (source_path w.surroundings.facts.depth) w.present) w.outputs h (λ e. holds_left p (files_seen f s said) closed (ap (holds p) (sym seen) ∙ e))
    (λ e. holds_right p (files_seen f s said) closed (held_one closed w.outputs held p e)))
    (edges_read w) means.made
