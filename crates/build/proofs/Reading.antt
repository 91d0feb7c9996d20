-- The targets that a project keeps, and the edges of the one with a number.
use Rattle.std.proofs.Common.{◌≡◌, ℕ, zero, suc, ◌+◌, List, [], ◌∷◌, ◌++◌, length, map, take, get_or, Option, Some, None, nat_lt, Bool}
use Rattle.std.proofs.Common.{true, false, refl, sym, ap, ◌∙◌, subst, option_map, arith, length-append}
use Rattle.std.specs.Prelude.{slice_get, unwrap_or, if◌then◌else◌}
use Rattle.std.specs.List.{list_all}
use Rattle.std.proofs.lemmas.Bool.{ltb-true}
use Rattle.std.proofs.lemmas.List.{map-append, take-map}
use Rattle.std.proofs.lemmas.Option.{slice_get-map, slice_get-get_or}
use Rattle.build.specs.edge.Texts.{Path, holds, texts}
use Rattle.build.specs.edge.Data.{EdgeData}
use Rattle.build.specs.Data.{SurroundingsData, TargetData, Build, Custom}
use Rattle.build.specs.Files.{is_static, file_path, object_paths}
use Rattle.build.specs.Libraries.{LinkBack, DeclaredTargetData, declared_target, linked_of, linked_libraries, libraries_of, library_numbers}
use Rattle.build.specs.DeclaredTargetViews.{declared_target_views}
use Rattle.build.specs.View.{target_view}
use Rattle.build.specs.declared.declared_target.DeclaredTarget.{DeclaredTarget}
use Rattle.build.proofs.LinkedLists.{back-take, linked_got, linked_of-take, target_missed, targets_after}
use Rattle.build.specs.target_edges.Edges.{archive_edge, build_edges, compile_edges, edges_of, link_edges, link_edge, target_edges}
use Rattle.build.specs.target_edges.Words.{library_files, link_words}
use Rattle.build.specs.project.World.{WorldData, made_of}
use Rattle.build.specs.project.Whole.{IsWhole, targets_in}
use Rattle.build.specs.project.Earlier.{all_refer_back, is_earlier_library, is_library_if, refers_back}
use Rattle.build.specs.project.Adding.{edges_if, edges_at, is_made_source, sources_of}
use Rattle.build.proofs.EdgeOrder.{list_all-weaker, split_and}
use Rattle.build.proofs.Placing.{linked_after-push}

-- no earlier target names a later one
pub back_of : (s : SurroundingsData) (outputs : List Path) (earlier ts : List TargetData) → all_refer_back s outputs earlier ts ≡ true → (n : ℕ) (t : TargetData) → slice_get ts n ≡ Some t
    → list_all (λ m. nat_lt m (length earlier + n)) (library_numbers t) ≡ true
back_of s outputs earlier [] e n t at = absurd cc
back_of s outputs earlier (x ∷ ts) e zero t at =
    let h = split_and (refers_back s outputs earlier x) (all_refer_back s outputs (earlier ++ x ∷ []) ts) e in
    let k = split_and (list_all (is_earlier_library earlier) (library_numbers x)) (list_all (is_made_source (λ p. holds p (made_of s earlier outputs))) (sources_of x)) h.0 in
    let place : length earlier ≡ length earlier + 0 = omega arith in
    ap (λ y. list_all (λ m. nat_lt m (length earlier + 0)) (library_numbers y)) (sym (ap (λ o. unwrap_or o x) at))
    ∙ ap (λ n. list_all (λ m. nat_lt m n) (library_numbers x)) (sym place)
    ∙ list_all-weaker (is_earlier_library earlier) (λ m. nat_lt m (length earlier))
    (λ m f. (split_and (nat_lt m (length earlier)) (is_library_if (slice_get earlier m)) f).0) (library_numbers x) k.0
back_of s outputs earlier (x ∷ ts) e (suc n) t at =
    let h = split_and (refers_back s outputs earlier x) (all_refer_back s outputs (earlier ++ x ∷ []) ts) e in
    let place : length earlier + suc n ≡ length (earlier ++ x ∷ []) + n = omega (arith, length-append earlier (x ∷ [])) in
    ap (λ k. list_all (λ m. nat_lt m k) (library_numbers t)) place ∙ back_of s outputs (earlier ++ x ∷ []) ts h.1 n t at

pub link_back : (s : SurroundingsData) (outputs : List Path) (ts : List TargetData) → all_refer_back s outputs [] ts ≡ true → LinkBack ts
link_back s outputs ts e n t at =
    let place : n ≡ 0 + n = omega arith in
    ap (λ k. list_all (λ m. nat_lt m k) (library_numbers t)) place ∙ back_of s outputs [] ts e n t at

-- the targets, as the code has them
pub targets_are : (xs : List DeclaredTarget) → targets_in (declared_target_views xs) ≡ map (λ l. target_view l.target) xs
targets_are xs = targets_after [] (map (λ l. target_view l.target) xs)

-- one target more
pub views-push : (xs : List DeclaredTarget) (x : DeclaredTarget) → declared_target_views xs ≡ linked_of (targets_in (declared_target_views xs))
    → declared_target_views (xs ++ x ∷ []) ≡ declared_target_views xs ++ declared_target (linked_of (targets_in (declared_target_views xs))) (target_view x.target) ∷ []
views-push xs x e =
    let ts = map (λ l. target_view l.target) xs in
    ap linked_of (map-append (λ (l : DeclaredTarget). target_view l.target) xs (x ∷ []))
    ∙ linked_after-push [] ts (target_view x.target)
    ∙ ap (λ ls. declared_target_views xs ++ declared_target ls (target_view x.target) ∷ []) e

last_got : {X : Type 0} (xs : List X) (x d : X) → get_or (xs ++ x ∷ []) (length xs) d ≡ x
last_got [] x d = refl
last_got (z ∷ xs) x d = last_got xs x d

-- and what it is asked for
pub asked_last : (xs ys : List DeclaredTarget) (x y : DeclaredTarget) (n : ℕ) → ys ≡ xs ++ x ∷ [] → n ≡ length xs → y ≡ get_or ys n y → texts y.paths.items ≡ texts x.paths.items
asked_last xs ys x y n e f at =
    ap (λ (l : DeclaredTarget). texts l.paths.items) (at ∙ ap (λ ls. get_or ls n y) e ∙ ap (λ m. get_or (xs ++ x ∷ []) m y) f ∙ last_got xs x y)

-- those of a whole project name earlier ones alone
pub whole_back : (s : SurroundingsData) (xs : List DeclaredTarget) (outputs present kept : List Path) → IsWhole s (declared_target_views xs) outputs present kept → LinkBack (map (λ l. target_view l.target) xs)
whole_back s xs outputs present kept w = subst LinkBack (targets_are xs) (link_back s outputs (targets_in (declared_target_views xs)) w.back)

-- the first so many of them do
pub front_back : (xs earlier : List DeclaredTarget) (n : ℕ) → earlier ≡ take n xs → LinkBack (map (λ l. target_view l.target) xs) → LinkBack (map (λ l. target_view l.target) earlier)
front_back xs earlier n e back =
    subst LinkBack (take-map (λ l. target_view l.target) n xs ∙ ap (map (λ l. target_view l.target)) (sym e)) (back-take (map (λ l. target_view l.target) xs) n back)

-- an archive's edges are the same whatever it links
pub edges_same : (s : SurroundingsData) (earlier : List DeclaredTargetData) (t : TargetData) → target_edges s earlier (linked_libraries earlier t) t ≡ edges_of s earlier (declared_target earlier t)
edges_same s earlier (Custom t) = refl
edges_same s earlier (Build t) = by (is_static t.kind) refl
  where
    by : (b : Bool) → is_static t.kind ≡ b → build_edges s earlier (if b then [] else libraries_of earlier t) t ≡ build_edges s earlier (libraries_of earlier t) t
    by true e =
        let file = file_path t in
        let objects = object_paths s.facts.depth t in
        let archive = archive_edge s.facts.archiver file objects in
        let linked_by : List ℕ → EdgeData = λ ns. link_edge (link_words s earlier ns t file objects) file objects (library_files earlier ns) in
        ap (λ x. compile_edges s t ++ (x ∷ link_edges t))
        (ap (λ b. if b then archive else linked_by []) e ∙ sym (ap (λ b. if b then archive else linked_by (libraries_of earlier t)) e))
    by false e = refl

pub edges_found : (w : WorldData) (s : SurroundingsData) (xs earlier : List DeclaredTarget) (n : ℕ) (one : DeclaredTarget) → s ≡ w.surroundings → declared_target_views xs ≡ linked_of w.targets → earlier ≡ take n xs
    → true ≡ nat_lt n (length xs) → one ≡ get_or xs n one → edges_of s (declared_target_views earlier) (declared_target (declared_target_views earlier) (target_view one.target)) ≡ edges_at w n
edges_found w s xs earlier n one e f g lt at =
    let seen : DeclaredTarget → TargetData = λ x. target_view x.target in
    let ts = map seen xs in
    let front : declared_target_views earlier ≡ take n (linked_of w.targets) =
    ap declared_target_views g ∙ ap linked_of (sym (take-map seen n xs)) ∙ sym (linked_of-take ts n) ∙ ap (take n) f in
    let got : slice_get ts n ≡ Some (seen one) = slice_get-map seen xs n ∙ ap (option_map seen) (slice_get-get_or xs n one (ltb-true n (length xs) (sym lt)) ∙ ap Some (sym at)) in
    let here : slice_get (linked_of w.targets) n ≡ Some (declared_target (take n (linked_of w.targets)) (seen one)) =
    ap (λ ls. slice_get ls n) (sym f) ∙ linked_got ts n (seen one) got ∙ ap (λ ls. Some (declared_target (take n ls) (seen one))) f in
    ap (λ x. edges_of x (declared_target_views earlier) (declared_target (declared_target_views earlier) (seen one))) e
    ∙ ap (λ ls. edges_of w.surroundings ls (declared_target ls (seen one))) front
    ∙ sym (ap (edges_if w.surroundings (take n (linked_of w.targets))) here)

pub edges_missed : (w : WorldData) (xs : List DeclaredTarget) (n : ℕ) → declared_target_views xs ≡ linked_of w.targets → false ≡ nat_lt n (length xs) → edges_at w n ≡ []
edges_missed w xs n f past = ap (edges_if w.surroundings (take n (linked_of w.targets))) (ap (λ ls. slice_get ls n) (sym f) ∙ by (slice_get (declared_target_views xs) n) (target_missed xs n past))
  where
    by : (o : Option DeclaredTargetData) → None ≡ option_map (λ l. l.target) o → o ≡ None
    by None e = refl
    by (Some l) e = absurd cc
