-- What a target is answered.
use Rattle.std.proofs.Common.{◌≡◌, ℕ, ◌≤◌, Bool, true, false, List, [], ◌∷◌, Err, refl, sym, ap, ◌∙◌, arith, bytes_eq, ◌+◌}
use Rattle.std.specs.Prelude.{◌&&◌, ◌||◌, not, if◌then◌else◌}
use Rattle.std.specs.List.{list_all}
use Rattle.std.proofs.lemmas.Bool.{and_parts}
use Rattle.build.specs.edge.Texts.{Path, holds}
use Rattle.build.specs.edge.Data.{EdgeData}
use Rattle.build.specs.edge.Holding.{are_writable}
use Rattle.build.specs.Data.{SurroundingsData, SourceData, Tree, Built, Made, TargetData}
use Rattle.build.specs.Libraries.{DeclaredTargetData, declared_target, linked_libraries, linked_of}
use Rattle.build.specs.target_edges.Edges.{target_edges}
use Rattle.build.specs.project.Laws.{outputs_of, times}
use Rattle.build.specs.project.World.{WorldData, reserved_paths, made_of, is_made_in}
use Rattle.build.specs.project.Whole.{targets_in, IsWhole, IsNext}
use Rattle.build.specs.project.Adding.{sources_of, is_made_source, is_present, target_fits, is_fit, edges_with, place_answer, target_answer}
use Rattle.build.specs.project.Adding.{is_within}
use Rattle.build.specs.project.Refused.{refusal_for_text}
use Rattle.build.specs.project.Unheld.{unheld_text}
use Rattle.support.specs.declared.faults.refusal.Refusal.TheVariants.{Arguments, FileMissing, NinjaName}
use Rattle.build.proofs.PathLists.{times-append}
use Rattle.build.proofs.EdgeOrder.{holds_append}
use Rattle.build.proofs.Earlier.{back_next}
use Rattle.build.proofs.NextMade.{next_made}
use Rattle.build.proofs.Reading.{edges_same}
use Rattle.build.proofs.NextInside.{next_inside}

-- ---- what is made

held_or_not : (p : Path) (xs : List Path) → holds p xs ≡ true → 1 ≤ times p xs
held_or_not p [] h = absurd cc
held_or_not p (x ∷ xs) h = here (bytes_eq p x) (holds p xs) (times p xs) h (held_or_not p xs)
  where
    here : (b c : Bool) (n : ℕ) → (b || c) ≡ true → (c ≡ true → 1 ≤ n) → 1 ≤ (if b then 1 else 0) + n
    here true c n h f = omega arith
    here false c n h f = let k = f h in omega arith

by_cases : (r m : Bool) → (r ≡ true → m ≡ true → ⊥) → ((r || m) && not r) ≡ m
by_cases true true f = absurd (f refl refl)
by_cases true false f = refl
by_cases false true f = refl
by_cases false false f = refl

pub made_is : (s : SurroundingsData) (ls : List DeclaredTargetData) (outputs present kept : List Path) → IsWhole s ls outputs present kept → (p : Path) → is_made_in kept p ≡ holds p (made_of s (targets_in ls) outputs)
made_is s ls outputs present kept w p =
    let made = made_of s (targets_in ls) outputs in
    ap (λ b. b && not (holds p reserved_paths)) (w.paths p ∙ holds_append p reserved_paths made)
    ∙ by_cases (holds p reserved_paths) (holds p made)
    (λ a b. let h = held_or_not p reserved_paths a in let k = held_or_not p made b in let t = times-append p reserved_paths made in let o = w.once p in omega arith)

list_all-same : {X : Type 0} (p q : X → Bool) → ((x : X) → p x ≡ q x) → (xs : List X) → list_all p xs ≡ list_all q xs
list_all-same p q f [] = refl
list_all-same p q f (x ∷ xs) = ap (λ b. b && list_all p xs) (f x) ∙ ap (λ b. q x && b) (list_all-same p q f xs)

source-same : (p q : Path → Bool) → ((x : Path) → p x ≡ q x) → (x : SourceData) → is_made_source p x ≡ is_made_source q x
source-same p q f (Tree path) = refl
source-same p q f (Built path) = f path
source-same p q f (Made paths) = list_all-same p q f paths

pub sources-same : (p q : Path → Bool) → ((x : Path) → p x ≡ q x) → (xs : List SourceData) → list_all (is_made_source p) xs ≡ list_all (is_made_source q) xs
sources-same p q f xs = list_all-same (is_made_source p) (is_made_source q) (source-same p q f) xs

-- ---- the first refusal

pub answer_missing : (w : WorldData) (t : TargetData) → is_fit w t ≡ true → list_all (is_present w.present) (sources_of t) ≡ false → target_answer w t ≡ Err (refusal_for_text FileMissing [])
answer_missing w t a b =
    let placed = place_answer w (outputs_of (edges_with w t)) (is_within t) in
    let held = if are_writable (edges_with w t) then placed else Err (refusal_for_text NinjaName (unheld_text t)) in
    ap (λ x. if x then (if list_all (is_present w.present) (sources_of t) then held else Err (refusal_for_text FileMissing [])) else Err (refusal_for_text Arguments [])) a
    ∙ ap (λ x. if x then held else Err (refusal_for_text FileMissing [])) b

pub answer_unholdable : (w : WorldData) (t : TargetData) → is_fit w t ≡ true → list_all (is_present w.present) (sources_of t) ≡ true → are_writable (edges_with w t) ≡ false → target_answer w t ≡ Err (refusal_for_text NinjaName (unheld_text t))
answer_unholdable w t a b d =
    let placed = place_answer w (outputs_of (edges_with w t)) (is_within t) in
    let held = if are_writable (edges_with w t) then placed else Err (refusal_for_text NinjaName (unheld_text t)) in
    ap (λ x. if x then (if list_all (is_present w.present) (sources_of t) then held else Err (refusal_for_text FileMissing [])) else Err (refusal_for_text Arguments [])) a
    ∙ ap (λ x. if x then held else Err (refusal_for_text FileMissing [])) b
    ∙ ap (λ x. if x then placed else Err (refusal_for_text NinjaName (unheld_text t))) d

pub answer_placed : (w : WorldData) (t : TargetData) → is_fit w t ≡ true → list_all (is_present w.present) (sources_of t) ≡ true → are_writable (edges_with w t) ≡ true
    → target_answer w t ≡ place_answer w (outputs_of (edges_with w t)) (is_within t)
answer_placed w t a b d =
    let placed = place_answer w (outputs_of (edges_with w t)) (is_within t) in
    let held = if are_writable (edges_with w t) then placed else Err (refusal_for_text NinjaName (unheld_text t)) in
    ap (λ x. if x then (if list_all (is_present w.present) (sources_of t) then held else Err (refusal_for_text FileMissing [])) else Err (refusal_for_text Arguments [])) a
    ∙ ap (λ x. if x then held else Err (refusal_for_text FileMissing [])) b
    ∙ ap (λ x. if x then placed else Err (refusal_for_text NinjaName (unheld_text t))) d

-- ---- a target that fits

module _ (w : WorldData) (t : TargetData) (ns : List ℕ) (es : List EdgeData) (a : ns ≡ linked_libraries (linked_of w.targets) t) (e : es ≡ target_edges w.surroundings (linked_of w.targets) ns t) where
  pub edges_are : es ≡ edges_with w t
  edges_are = e ∙ ap (λ n. target_edges w.surroundings (linked_of w.targets) n t) a ∙ edges_same w.surroundings (linked_of w.targets) t

  pub next_ready : (ps : List Path) → ps ≡ outputs_of es → are_writable es ≡ true → is_fit w t ≡ true → list_all (is_present w.present) (sources_of t) ≡ true
      → IsNext w.surroundings w.targets w.outputs w.present (declared_target (linked_of w.targets) t) ps
  next_ready ps p wr fit there =
      let s = w.surroundings in
      let h = and_parts (target_fits (linked_of w.targets) t)
      (list_all (is_made_source (λ q. holds q (made_of s w.targets w.outputs))) (sources_of t)) fit in
      record {
        libraries = refl;
        paths_are = p ∙ ap outputs_of edges_are;
        made = next_made s w.targets w.outputs w.present t h.1 there;
        inside = next_inside s (linked_of w.targets) t h.0;
        writable = ap are_writable (sym edges_are) ∙ wr;
        back = back_next s w.targets w.outputs t h.0 h.1;
      }
