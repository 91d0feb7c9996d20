-- No path is made twice, and no edge reaches itself.
use Rattle.std.proofs.Common.{◌≡◌, ℕ, zero, suc, ◌+◌, ◌<◌, ◌≤◌, Bool, true, false, List, [], ◌∷◌, ◌++◌, map, refl, sym, ap, ◌∙◌, bytes_eq}
use Rattle.std.proofs.Common.{codes, arith}
use Rattle.std.specs.Prelude.{◌||◌, not, ◌-◌, slice_get, if◌then◌else◌}
use Rattle.std.specs.List.{list_all}
use Rattle.std.proofs.lemmas.Slice.Eq.{bytes_eq-Decides}
use Rattle.build.specs.edge.Texts.{Path, holds}
use Rattle.build.specs.edge.Paths.{way_up, source_path, is_upward}
use Rattle.build.specs.edge.Data.{EdgeData}
use Rattle.build.specs.Data.{SurroundingsData, TargetData}
use Rattle.build.specs.Libraries.{DeclaredTargetData}
use Rattle.build.specs.target_edges.Edges.{all_edges}
use Rattle.build.specs.project.Laws.{outputs_of, needs, times, AtMostOnce, all_held, all_made, outputs_if, Feeds, Reaches, at_once, through}
use Rattle.build.specs.project.World.{reserved_paths, known_of, taken_of}
use Rattle.build.specs.project.Whole.{targets_in, IsWhole}
use Rattle.build.proofs.PathLists.{times-append}
use Rattle.build.proofs.EdgeOrder.{split_and, both, or_left, or_right, or_cases, holds_append}

-- ---- once

pub once_made : (s : SurroundingsData) (ts : List TargetData) (outputs : List Path) → AtMostOnce (taken_of s ts outputs) → AtMostOnce (outputs_of (all_edges s ts) ++ outputs)
once_made s ts outputs once p =
    let h = once p in let e = times-append p reserved_paths (outputs_of (all_edges s ts) ++ outputs) in omega arith

pub once_front : (xs ys : List Path) → AtMostOnce (xs ++ ys) → AtMostOnce xs
once_front xs ys once p = let h = once p in let e = times-append p xs ys in omega arith

-- ---- no circle

-- no path is in both lists
abbrev Apart : List Path → List Path → Type 0
Apart xs ys = (p : Path) → holds p xs ≡ true → holds p ys ≡ true → ⊥

-- what all paths of a list meet, each meets
pub member : (q : Path → Bool) (xs : List Path) (p : Path) → list_all q xs ≡ true → holds p xs ≡ true → q p ≡ true
member q [] p e h = absurd cc
member q (x ∷ xs) p e h =
    let s = split_and (q x) (list_all q xs) e in
    or_cases (bytes_eq p x) (holds p xs) h
    (λ same. ap q ((bytes_eq-Decides p x).0 same) ∙ s.0)
    (λ later. member q xs p s.1 later)

one_here : (b : Bool) (n : ℕ) → (b ≡ false → 1 ≤ n) → 1 ≤ (if b then 1 else 0) + n
one_here true n h = omega arith
one_here false n h = let k = h refl in omega arith

pub times_held : (p : Path) (xs : List Path) → holds p xs ≡ true → 1 ≤ times p xs
times_held p [] h = absurd cc
times_held p (x ∷ xs) h = one_here (bytes_eq p x) (times p xs) (λ e. times_held p xs (right_of (bytes_eq p x) (holds p xs) h e))
  where
    right_of : (b c : Bool) → (b || c) ≡ true → b ≡ false → c ≡ true
    right_of true c h e = absurd cc
    right_of false c h e = h

held_at : (es : List EdgeData) (j : ℕ) (p : Path) → holds p (outputs_if (slice_get es j)) ≡ true → holds p (outputs_of es) ≡ true
held_at [] j p h = absurd cc
held_at (e ∷ es) zero p h = holds_append p e.outputs (outputs_of es) ∙ or_left (holds p e.outputs) (holds p (outputs_of es)) h
held_at (e ∷ es) (suc j) p h = holds_append p e.outputs (outputs_of es) ∙ or_right (holds p e.outputs) (holds p (outputs_of es)) (held_at es j p h)

apart_later : (known outs later : List Path) → Apart known (outs ++ later) → AtMostOnce (outs ++ later) → Apart (known ++ outs) later
apart_later known outs later apart once p a b =
    or_cases (holds p known) (holds p outs) (sym (holds_append p known outs) ∙ a)
    (λ h. apart p h (holds_append p outs later ∙ or_right (holds p outs) (holds p later) b))
    (λ h. let m = times_held p outs h in let n = times_held p later b in let t = times-append p outs later in let o = once p in omega arith)

once_later : (outs later : List Path) → AtMostOnce (outs ++ later) → AtMostOnce later
once_later outs later once p = let t = times-append p outs later in let o = once p in omega arith

-- an edge that feeds another stands before it
feeds_before : (known : List Path) (es : List EdgeData) (j i : ℕ) → all_made known es ≡ true → Apart known (outputs_of es) → AtMostOnce (outputs_of es) → Feeds es j i → j < i
feeds_before known [] j i made apart once f = let e : false ≡ true = f.made in absurd cc
feeds_before known (e ∷ es) j zero made apart once f =
    let s = split_and (all_held known (needs e)) (all_made (known ++ e.outputs) es) made in
    absurd (apart f.path (member (λ p. holds p known) (needs e) f.path s.0 f.needed) (held_at (e ∷ es) j f.path f.made))
feeds_before known (e ∷ es) zero (suc i) made apart once f = omega arith
feeds_before known (e ∷ es) (suc j) (suc i) made apart once f =
    let s = split_and (all_held known (needs e)) (all_made (known ++ e.outputs) es) made in
    let h = feeds_before (known ++ e.outputs) es j i s.1 (apart_later known e.outputs (outputs_of es) apart once) (once_later e.outputs (outputs_of es) once)
    (record { path = f.path; made = f.made; needed = f.needed }) in
    omega arith

reaches_before : (es : List EdgeData) → ((j i : ℕ) → Feeds es j i → j < i) → (j i : ℕ) → Reaches es j i → j < i
reaches_before es step j i (at_once _ _ f) = step j i f
reaches_before es step j i (through _ k _ f r) = let a = step j k f in let b = reaches_before es step k i r in omega arith

-- a file of the tree lies outside the build folder
source_up : (n : ℕ) (path : Path) → is_upward (way_up n ++ (codes "../" ++ path)) ≡ true
source_up zero path = refl
source_up (suc n) path = refl

pub sources_up : (depth : ℕ) (ps : List Path) → list_all is_upward (map (source_path depth) ps) ≡ true
sources_up depth [] = refl
sources_up depth (p ∷ ps) = both (is_upward (source_path depth p)) (list_all is_upward (map (source_path depth) ps)) (source_up (depth - 1) p) (sources_up depth ps)

not_both : (b : Bool) → b ≡ true → not b ≡ true → ⊥
not_both true a b = cc
not_both false a b = cc

pub no_cycle_lem : (s : SurroundingsData) (ls : List DeclaredTargetData) (outputs present kept : List Path) → IsWhole s ls outputs present kept → (i : ℕ) → Reaches (all_edges s (targets_in ls)) i i → ⊥
no_cycle_lem s ls outputs present kept w i r =
    let es = all_edges s (targets_in ls) in
    let made = outputs_of es in
    let both_once = once_made s (targets_in ls) outputs w.once in
    let apart = λ (p : Path) (a : holds p (known_of s outputs present) ≡ true) (b : holds p made ≡ true).
    or_cases (holds p (map (source_path s.facts.depth) present)) (holds p outputs) (sym (holds_append p (map (source_path s.facts.depth) present) outputs) ∙ a)
    (λ (h : holds p (map (source_path s.facts.depth) present) ≡ true).
    not_both (is_upward p) (member is_upward (map (source_path s.facts.depth) present) p (sources_up s.facts.depth present) h)
    (member (λ q. not (is_upward q)) made p w.inside b))
    (λ (h : holds p outputs ≡ true). let m : 1 ≤ times p made = times_held p made b in let n : 1 ≤ times p outputs = times_held p outputs h in let t = times-append p made outputs in let o = both_once p in absurd (omega arith)) in
    let h = reaches_before es (λ j k f. feeds_before (known_of s outputs present) es j k w.made apart (once_front made outputs both_once) f) i i r in
    omega arith
