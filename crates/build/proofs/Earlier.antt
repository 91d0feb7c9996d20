-- Targets that refer to earlier ones.
use Rattle.std.proofs.Common.{◌≡◌, ℕ, zero, suc, ◌<◌, Bool, true, List, [], ◌∷◌, ◌++◌, length, refl, sym, ap, ◌∙◌, append-nil, append_assoc}
use Rattle.std.proofs.Common.{nat_lt, arith}
use Rattle.std.specs.Prelude.{◌&&◌, flat_map, slice_get, not}
use Rattle.std.specs.List.{list_all}
use Rattle.std.proofs.lemmas.Bool.Decides.{nat_tests}
use Rattle.build.specs.edge.Texts.{Path, holds}
use Rattle.build.specs.Data.{SurroundingsData, SourceData, Tree, Built, Made, ListsData, TargetData, Build, Custom}
use Rattle.build.specs.Sources.{has_foreign}
use Rattle.build.specs.Libraries.{DeclaredTargetData, linked_of, build_of, is_library_in, is_library_at, library_numbers, links_in}
use Rattle.build.specs.Libraries.{links_libraries}
use Rattle.build.proofs.LinkedLists.{targets_after}
use Rattle.build.specs.target_edges.Edges.{all_edges}
use Rattle.build.specs.project.Laws.{outputs_of}
use Rattle.build.specs.project.World.{made_of}
use Rattle.build.specs.project.Whole.{targets_in}
use Rattle.build.specs.project.Adding.{sources_of, is_made_source, is_folder, names_fit, has_c, target_fits}
use Rattle.build.specs.project.Earlier.{is_library_target, is_library_if, is_earlier_library, refers_back, all_refer_back}
use Rattle.build.proofs.EdgeOrder.{split_and, both, list_all-weaker, list_all-flat_map, list_all-joined, holds_left}

-- ---- one target more

pub back_push : (s : SurroundingsData) (outputs : List Path) (earlier ts : List TargetData) (t : TargetData) → all_refer_back s outputs earlier ts ≡ true
    → refers_back s outputs (earlier ++ ts) t ≡ true → all_refer_back s outputs earlier (ts ++ t ∷ []) ≡ true
back_push s outputs earlier [] t e f = both (refers_back s outputs earlier t) true (ap (λ k. refers_back s outputs k t) (sym (append-nil earlier)) ∙ f) refl
back_push s outputs earlier (x ∷ ts) t e f =
    let h = split_and (refers_back s outputs earlier x) (all_refer_back s outputs (earlier ++ x ∷ []) ts) e in
    both (refers_back s outputs earlier x) (all_refer_back s outputs (earlier ++ x ∷ []) (ts ++ t ∷ [])) h.0
    (back_push s outputs (earlier ++ x ∷ []) ts t h.1 (ap (λ k. refers_back s outputs k t) (append_assoc earlier (x ∷ []) ts) ∙ f))

-- ---- more that `configure_file` makes

source_weaker : (p q : Path → Bool) → ((x : Path) → p x ≡ true → q x ≡ true) → (x : SourceData) → is_made_source p x ≡ true → is_made_source q x ≡ true
source_weaker p q w (Tree path) e = refl
source_weaker p q w (Built path) e = w path e
source_weaker p q w (Made paths) e = list_all-weaker p q w paths e

pub back_grown : (s : SurroundingsData) (outputs more : List Path) (earlier ts : List TargetData) → all_refer_back s outputs earlier ts ≡ true
    → all_refer_back s (outputs ++ more) earlier ts ≡ true
back_grown s outputs more earlier [] e = refl
back_grown s outputs more earlier (t ∷ ts) e =
    let made : Path → Bool = λ p. holds p (made_of s earlier outputs) in
    let now : Path → Bool = λ p. holds p (made_of s earlier (outputs ++ more)) in
    let h = split_and (refers_back s outputs earlier t) (all_refer_back s outputs (earlier ++ t ∷ []) ts) e in
    let k = split_and (list_all (is_earlier_library earlier) (library_numbers t)) (list_all (is_made_source made) (sources_of t)) h.0 in
    both (refers_back s (outputs ++ more) earlier t) (all_refer_back s (outputs ++ more) (earlier ++ t ∷ []) ts)
    (both (list_all (is_earlier_library earlier) (library_numbers t)) (list_all (is_made_source now) (sources_of t)) k.0
    (list_all-weaker (is_made_source made) (is_made_source now)
    (source_weaker made now (λ p g. ap (holds p) (sym (append_assoc (outputs_of (all_edges s earlier)) outputs more)) ∙ holds_left p (made_of s earlier outputs) more g))
    (sources_of t) k.1))
    (back_grown s outputs more (earlier ++ t ∷ []) ts h.1)

-- ---- a target that fits

library_same : (t : TargetData) → is_library_in (build_of t) ≡ is_library_target t
library_same (Build t) = refl
library_same (Custom t) = refl

library_is : (ls : List DeclaredTargetData) (n : ℕ) → is_library_at ls n ≡ true → is_library_if (slice_get (targets_in ls) n) ≡ true
library_is [] n e = absurd cc
library_is (l ∷ ls) zero e = sym (library_same l.target) ∙ e
library_is (l ∷ ls) (suc n) e = library_is ls n e

library_below : (ls : List DeclaredTargetData) (n : ℕ) → is_library_at ls n ≡ true → n < length (targets_in ls)
library_below [] n e = absurd cc
library_below (l ∷ ls) zero e = omega arith
library_below (l ∷ ls) (suc n) e = omega (arith, library_below ls n e)

earlier_library : (ts : List TargetData) (n : ℕ) → is_library_at (linked_of ts) n ≡ true → is_earlier_library ts n ≡ true
earlier_library ts n e =
    let ls = linked_of ts in
    let below = library_below ls n e in
    let test : nat_lt n (length (targets_in ls)) ≡ true = grind (arith, nat_tests) in
    ap (λ k. is_earlier_library k n) (sym (targets_after [] ts))
    ∙ both (nat_lt n (length (targets_in ls))) (is_library_if (slice_get (targets_in ls) n)) test (library_is ls n e)

libraries_before : (ts : List TargetData) (t : TargetData) → target_fits (linked_of ts) t ≡ true → list_all (is_earlier_library ts) (library_numbers t) ≡ true
libraries_before ts (Custom t) e = refl
libraries_before ts (Build t) e =
    let ls = linked_of ts in
    let links = links_libraries ls t in
    let a = split_and (is_folder t.folder) (names_fit t && (not (has_foreign t) && (has_c t && links))) e in
    let b = split_and (names_fit t) (not (has_foreign t) && (has_c t && links)) a.1 in
    let c = split_and (not (has_foreign t)) (has_c t && links) b.1 in
    let d = split_and (has_c t) links c.1 in
    let f = split_and (links_in ls t.own) (list_all (links_in ls) t.dependencies) d.1 in
    let each : (l : ListsData) → links_in ls l ≡ true → list_all (is_earlier_library ts) l.link_with ≡ true =
    λ l g. list_all-weaker (is_library_at ls) (is_earlier_library ts) (earlier_library ts) l.link_with g in
    list_all-joined (is_earlier_library ts) t.own.link_with (flat_map (λ (l : ListsData). l.link_with) t.dependencies)
    (each t.own f.0)
    (list_all-flat_map (is_earlier_library ts) (links_in ls) (λ (l : ListsData). l.link_with) each t.dependencies f.1)

pub back_next : (s : SurroundingsData) (ts : List TargetData) (outputs : List Path) (t : TargetData) → target_fits (linked_of ts) t ≡ true
    → list_all (is_made_source (λ p. holds p (made_of s ts outputs))) (sources_of t) ≡ true → refers_back s outputs ts t ≡ true
back_next s ts outputs t fits made =
    both (list_all (is_earlier_library ts) (library_numbers t)) (list_all (is_made_source (λ p. holds p (made_of s ts outputs))) (sources_of t))
    (libraries_before ts t fits) made
