-- What stands at a number of linked targets.
use Rattle.std.proofs.Common.{◌≡◌, ℕ, zero, suc, ◌+◌, ◌<◌, Bool, true, false, List, [], ◌∷◌, ◌++◌, length, map, take, get_or, ◌≤◌, refl}
use Rattle.std.proofs.Common.{sym, ap, ◌∙◌, append-nil, append_assoc, arith, option_map, length-append}
use Rattle.std.specs.Prelude.{nat_lt, slice_get, Option, Some, None, unwrap_or, flat_map, if◌then◌else◌}
use Rattle.std.specs.List.{list_all}
use Rattle.std.proofs.Math.Seq.{take-append_seam}
use Rattle.std.proofs.lemmas.Bool.{ltb-true, and_parts}
use Rattle.std.proofs.lemmas.Bool.Decides.{nat_tests}
use Rattle.std.proofs.lemmas.List.{length-take, map-append, take_all}
use Rattle.std.proofs.lemmas.Option.{slice_get-map, slice_get-get_or, slice_get_within, slice_get_past}
use Rattle.build.specs.edge.Texts.{texts}
use Rattle.build.specs.Data.{TargetData, Build, Custom, BuildData}
use Rattle.build.specs.Sources.{list_with_dependencies}
use Rattle.build.specs.Files.{is_static, default_paths}
use Rattle.build.specs.Libraries.{DeclaredTargetData, declared_target, linked_after, linked_of, last_kept, with_its_own, libraries_if_static, libraries_in}
use Rattle.build.specs.Libraries.{is_static_target, build_of, build_in, LinkBack}
use Rattle.build.specs.DeclaredTargetViews.{declared_target_views}
use Rattle.build.specs.View.{target_view}
use Rattle.build.specs.Walk.{if_static, static_at}
use Rattle.build.specs.declared.declared_target.DeclaredTarget.{DeclaredTarget}

-- ---- their targets and their paths

pub targets_after : (earlier : List DeclaredTargetData) (ts : List TargetData) → map (λ l. l.target) (linked_after earlier ts) ≡ map (λ l. l.target) earlier ++ ts
targets_after earlier [] = sym (append-nil (map (λ l. l.target) earlier))
targets_after earlier (t ∷ ts) =
    targets_after (earlier ++ declared_target earlier t ∷ []) ts
    ∙ ap (λ k. k ++ ts) (map-append (λ (l : DeclaredTargetData). l.target) earlier (declared_target earlier t ∷ []))
    ∙ append_assoc (map (λ l. l.target) earlier) (t ∷ []) ts

-- targets that are kept are those of which they are linked
pub kept_targets : (kept : List DeclaredTarget) (ts : List TargetData) → declared_target_views kept ≡ linked_of ts → map (λ k. target_view k.target) kept ≡ ts
kept_targets kept ts e = sym (targets_after [] (map (λ k. target_view k.target) kept)) ∙ ap (map (λ l. l.target)) e ∙ targets_after [] ts

paths_after : (earlier : List DeclaredTargetData) (ts : List TargetData) → map (λ l. l.paths) (linked_after earlier ts) ≡ map (λ l. l.paths) earlier ++ map default_paths ts
paths_after earlier [] = sym (append-nil (map (λ l. l.paths) earlier))
paths_after earlier (t ∷ ts) =
    paths_after (earlier ++ declared_target earlier t ∷ []) ts
    ∙ ap (λ k. k ++ map default_paths ts) (map-append (λ (l : DeclaredTargetData). l.paths) earlier (declared_target earlier t ∷ []))
    ∙ append_assoc (map (λ l. l.paths) earlier) (default_paths t ∷ []) (map default_paths ts)

-- the target at a number, as the code has it
pub target_found : (xs : List DeclaredTarget) (n : ℕ) → option_map (λ l. l.target) (slice_get (declared_target_views xs) n) ≡ option_map (λ x. target_view x.target) (slice_get xs n)
target_found xs n =
    sym (slice_get-map (λ (l : DeclaredTargetData). l.target) (declared_target_views xs) n)
    ∙ ap (λ ts. slice_get ts n) (targets_after [] (map (λ x. target_view x.target) xs))
    ∙ slice_get-map (λ x. target_view x.target) xs n

pub target_got : (xs : List DeclaredTarget) (n : ℕ) (x : DeclaredTarget) → true ≡ nat_lt n (length xs) → x ≡ get_or xs n x
    → Some (target_view x.target) ≡ option_map (λ l. l.target) (slice_get (declared_target_views xs) n)
target_got xs n x lt at =
    sym (target_found xs n ∙ ap (option_map (λ y. target_view y.target)) (slice_get-get_or xs n x (ltb-true n (length xs) (sym lt)) ∙ ap Some (sym at)))

pub none_at : (xs : List DeclaredTarget) (n : ℕ) → false ≡ nat_lt n (length xs) → slice_get xs n ≡ None
none_at xs n e = let past : length xs ≤ n = grind (arith, nat_tests) in slice_get_past xs n past

pub target_missed : (xs : List DeclaredTarget) (n : ℕ) → false ≡ nat_lt n (length xs) → None ≡ option_map (λ l. l.target) (slice_get (declared_target_views xs) n)
target_missed xs n e = sym (target_found xs n ∙ ap (option_map (λ y. target_view y.target)) (none_at xs n e))

paths_are : (o : Option DeclaredTarget) → option_map default_paths (option_map (λ x. target_view x.target) o) ≡ option_map (λ x. texts x.paths.items) o
paths_are None = refl
paths_are (Some x) = ap Some (sym x.paths_are)

build_by : (o : Option DeclaredTargetData) (t : TargetData) → Some t ≡ option_map (λ l. l.target) o → build_in o ≡ build_of t
build_by None t e = absurd cc
build_by (Some l) t e = let same : l.target ≡ t = cc in ap build_of same

no_build_by : (o : Option DeclaredTargetData) → None ≡ option_map (λ l. l.target) o → build_in o ≡ None
no_build_by None e = refl
no_build_by (Some l) e = absurd cc

-- the build target at a number
pub build_got : (xs : List DeclaredTarget) (n : ℕ) (x : DeclaredTarget) → true ≡ nat_lt n (length xs) → x ≡ get_or xs n x → build_in (slice_get (declared_target_views xs) n) ≡ build_of (target_view x.target)
build_got xs n x lt at = build_by (slice_get (declared_target_views xs) n) (target_view x.target) (target_got xs n x lt at)

pub build_missed : (xs : List DeclaredTarget) (n : ℕ) → false ≡ nat_lt n (length xs) → build_in (slice_get (declared_target_views xs) n) ≡ None
build_missed xs n e = no_build_by (slice_get (declared_target_views xs) n) (target_missed xs n e)

-- and its paths
pub paths_found : (xs : List DeclaredTarget) (n : ℕ) → option_map (λ l. l.paths) (slice_get (declared_target_views xs) n) ≡ option_map (λ x. texts x.paths.items) (slice_get xs n)
paths_found xs n =
    let ts = map (λ x. target_view x.target) xs in
    sym (slice_get-map (λ (l : DeclaredTargetData). l.paths) (declared_target_views xs) n)
    ∙ ap (λ ps. slice_get ps n) (paths_after [] ts)
    ∙ slice_get-map default_paths ts n
    ∙ ap (option_map default_paths) (slice_get-map (λ x. target_view x.target) xs n)
    ∙ paths_are (slice_get xs n)

pub paths_got : (xs : List DeclaredTarget) (n : ℕ) (x : DeclaredTarget) → true ≡ nat_lt n (length xs) → x ≡ get_or xs n x
    → Some (texts x.paths.items) ≡ option_map (λ l. l.paths) (slice_get (declared_target_views xs) n)
paths_got xs n x lt at =
    sym (paths_found xs n ∙ ap (option_map (λ y. texts y.paths.items)) (slice_get-get_or xs n x (ltb-true n (length xs) (sym lt)) ∙ ap Some (sym at)))

pub paths_missed : (xs : List DeclaredTarget) (n : ℕ) → false ≡ nat_lt n (length xs) → None ≡ option_map (λ l. l.paths) (slice_get (declared_target_views xs) n)
paths_missed xs n e = sym (paths_found xs n ∙ ap (option_map (λ y. texts y.paths.items)) (none_at xs n e))

-- ---- what linked targets begin with

pub record Begun (earlier : List DeclaredTargetData) (ts : List TargetData) : Type 0 where
  pub rest : List DeclaredTargetData
  pub is : linked_after earlier ts ≡ earlier ++ rest

pub begun : (earlier : List DeclaredTargetData) (ts : List TargetData) → Begun earlier ts
begun earlier [] = record { rest = []; is = sym (append-nil earlier) }
begun earlier (t ∷ ts) =
    let b = begun (earlier ++ declared_target earlier t ∷ []) ts in
    record { rest = declared_target earlier t ∷ b.rest; is = b.is ∙ append_assoc earlier (declared_target earlier t ∷ []) b.rest }

pub get_seam : {X : Type 0} (xs : List X) (x : X) (ys : List X) → slice_get (xs ++ x ∷ ys) (length xs) ≡ Some x
get_seam [] x ys = refl
get_seam (z ∷ xs) x ys = get_seam xs x ys

-- the one at a number is linked behind those before it
linked_at : (earlier : List DeclaredTargetData) (ts : List TargetData) (n : ℕ) (l : DeclaredTargetData) → slice_get (linked_after earlier ts) (length earlier + n) ≡ Some l
    → l ≡ declared_target (take (length earlier + n) (linked_after earlier ts)) l.target
linked_at earlier [] n l e = absurd (omega (arith, slice_get_within earlier (length earlier + n) l e))
linked_at earlier (t ∷ ts) zero l e =
    let k = declared_target earlier t in
    let all = linked_after earlier (t ∷ ts) in
    let b = begun (earlier ++ k ∷ []) ts in
    let is : all ≡ earlier ++ k ∷ b.rest = b.is ∙ append_assoc earlier (k ∷ []) b.rest in
    let place : length earlier ≡ length earlier + 0 = omega arith in
    let front : earlier ≡ take (length earlier + 0) all = sym (ap (take (length earlier)) is ∙ take-append_seam earlier (k ∷ b.rest)) ∙ ap (λ n. take n all) place in
    let here : Some l ≡ Some k = sym e ∙ ap (slice_get all) (sym place) ∙ ap (λ xs. slice_get xs (length earlier)) is ∙ get_seam earlier k b.rest in
    let same : l ≡ k = ap (λ o. unwrap_or o l) here in
    same ∙ ap (λ x. declared_target earlier x.target) (sym same) ∙ ap (λ xs. declared_target xs l.target) front
linked_at earlier (t ∷ ts) (suc n) l e =
    let next = earlier ++ declared_target earlier t ∷ [] in
    let all = linked_after next ts in
    let place : length earlier + suc n ≡ length next + n = omega (arith, length-append earlier (declared_target earlier t ∷ [])) in
    linked_at next ts n l (ap (slice_get all) (sym place) ∙ e) ∙ ap (λ m. declared_target (take m all) l.target) (sym place)

-- those before a number are the earlier targets, linked
take_after : (earlier : List DeclaredTargetData) (ts : List TargetData) (n : ℕ) → take (length earlier + n) (linked_after earlier ts) ≡ linked_after earlier (take n ts)
take_after earlier [] zero = take_all (length earlier + 0) earlier (omega arith)
take_after earlier [] (suc n) = take_all (length earlier + suc n) earlier (omega arith)
take_after earlier (t ∷ ts) zero =
    let b = begun earlier (t ∷ ts) in
    let place : length earlier + 0 ≡ length earlier = omega arith in
    ap (λ m. take m (linked_after earlier (t ∷ ts))) place ∙ ap (take (length earlier)) b.is ∙ take-append_seam earlier b.rest
take_after earlier (t ∷ ts) (suc n) =
    let next = earlier ++ declared_target earlier t ∷ [] in
    let place : length earlier + suc n ≡ length next + n = omega (arith, length-append earlier (declared_target earlier t ∷ [])) in
    ap (λ m. take m (linked_after next ts)) place ∙ take_after next ts n

pub linked_of-take : (ts : List TargetData) (n : ℕ) → take n (linked_of ts) ≡ linked_of (take n ts)
linked_of-take ts n =
    let place : n ≡ 0 + n = omega arith in
    ap (λ m. take m (linked_of ts)) place ∙ take_after [] ts n

pub linked_in : (ts : List TargetData) (n : ℕ) (l : DeclaredTargetData) → slice_get (linked_of ts) n ≡ Some l → l ≡ declared_target (take n (linked_of ts)) l.target
linked_in ts n l e =
    let place : n ≡ 0 + n = omega arith in
    linked_at [] ts n l (ap (slice_get (linked_of ts)) (sym place) ∙ e) ∙ ap (λ m. declared_target (take m (linked_of ts)) l.target) (sym place)

-- the target of the one at a number
pub target_in : (ts : List TargetData) (n : ℕ) → option_map (λ l. l.target) (slice_get (linked_of ts) n) ≡ slice_get ts n
target_in ts n = sym (slice_get-map (λ (l : DeclaredTargetData). l.target) (linked_of ts) n) ∙ ap (λ k. slice_get k n) (targets_after [] ts)

pub linked_got : (ts : List TargetData) (n : ℕ) (t : TargetData) → slice_get ts n ≡ Some t → slice_get (linked_of ts) n ≡ Some (declared_target (take n (linked_of ts)) t)
linked_got ts n t e = by (slice_get (linked_of ts) n) refl
  where
    by : (o : Option DeclaredTargetData) → slice_get (linked_of ts) n ≡ o → o ≡ Some (declared_target (take n (linked_of ts)) t)
    by None g = let none : None ≡ Some t = sym (ap (option_map (λ (k : DeclaredTargetData). k.target)) g) ∙ target_in ts n ∙ e in absurd cc
    by (Some l) g =
        let same : Some l.target ≡ Some t = sym (ap (option_map (λ (k : DeclaredTargetData). k.target)) g) ∙ target_in ts n ∙ e in
        ap Some (linked_in ts n l g ∙ ap (declared_target (take n (linked_of ts))) (ap (λ o. unwrap_or o t) same))

-- ---- what comes with a static library

get_before : {X : Type 0} (n c : ℕ) (xs : List X) → c < n → slice_get (take n xs) c ≡ slice_get xs c
get_before zero c xs lt = absurd (omega (arith, lt))
get_before (suc n) c [] lt = refl
get_before (suc n) zero (x ∷ xs) lt = refl
get_before (suc n) (suc c) (x ∷ xs) lt = get_before n c xs (omega (arith, lt))

same_below : (f g : ℕ → List ℕ) (n : ℕ) → ((c : ℕ) → c < n → f c ≡ g c) → (ns : List ℕ) → list_all (λ m. nat_lt m n) ns ≡ true → flat_map f ns ≡ flat_map g ns
same_below f g n h [] e = refl
same_below f g n h (c ∷ cs) e =
    let p = and_parts (nat_lt c n) (list_all (λ m. nat_lt m n) cs) e in
    ap (λ l. l ++ flat_map f cs) (h c (ltb-true c n p.0)) ∙ ap (λ l. g c ++ l) (same_below f g n h cs p.1)

record IsStatic (x : TargetData) (t : BuildData) : Type 0 where
  target : x ≡ Build t
  test : is_static_target x ≡ true

static_is : (x : TargetData) (t : BuildData) → if_static (build_of x) ≡ Some t → IsStatic x t
static_is (Custom k) t e = absurd cc
static_is (Build b) t e = by (is_static b.kind) refl e
  where
    by : (c : Bool) → is_static b.kind ≡ c → (if c then Some b else None) ≡ Some t → IsStatic (Build b) t
    by true s f = record { target = ap (λ o. Build (unwrap_or o b)) f; test = s }
    by false s f = absurd cc

other_is : (x : TargetData) → if_static (build_of x) ≡ None → is_static_target x ≡ false
other_is (Custom k) e = refl
other_is (Build b) e = by (is_static b.kind) refl e
  where
    by : (c : Bool) → is_static b.kind ≡ c → (if c then Some b else None) ≡ None → is_static b.kind ≡ false
    by true s f = absurd cc
    by false s f = s

-- the first so many name earlier ones alone where all do
pub back-take : (ts : List TargetData) (n : ℕ) → LinkBack ts → LinkBack (take n ts)
back-take ts n back k t e =
    let within : k < n = omega (arith, slice_get_within (take n ts) k t e, length-take n ts) in
    back k t (sym (get_before n k ts within) ∙ e)

pub none_come : (ls : List DeclaredTargetData) (n : ℕ) → static_at ls n ≡ None → libraries_if_static (slice_get ls n) ≡ []
none_come ls n e = by (slice_get ls n) e
  where
    by : (o : Option DeclaredTargetData) → if_static (build_in o) ≡ None → libraries_if_static o ≡ []
    by None f = refl
    by (Some l) f = ap (λ b. if b then l.libraries else []) (other_is l.target f)

pub own_come : (ts : List TargetData) (n : ℕ) (t : BuildData) → LinkBack ts → static_at (linked_of ts) n ≡ Some t
    → libraries_if_static (slice_get (linked_of ts) n) ≡ last_kept (flat_map (with_its_own (linked_of ts)) (list_with_dependencies (λ l. l.link_with) t))
own_come ts n t back e = by (slice_get (linked_of ts) n) refl e
  where
    by : (o : Option DeclaredTargetData) → slice_get (linked_of ts) n ≡ o → if_static (build_in o) ≡ Some t
        → libraries_if_static o ≡ last_kept (flat_map (with_its_own (linked_of ts)) (list_with_dependencies (λ l. l.link_with) t))
    by None g f = absurd cc
    by (Some l) g f =
        let ls = linked_of ts in
        let is = static_is l.target t f in
        let at : slice_get ts n ≡ Some (Build t) = sym (target_in ts n) ∙ ap (option_map (λ (k : DeclaredTargetData). k.target)) g ∙ ap Some is.target in
        ap (λ b. if b then l.libraries else []) is.test
        ∙ ap (λ (k : DeclaredTargetData). k.libraries) (linked_in ts n l g)
        ∙ ap (libraries_in (take n ls)) is.target
        ∙ ap last_kept (same_below (with_its_own (take n ls)) (with_its_own ls) n
        (λ c lt. ap (λ o. c ∷ libraries_if_static o) (get_before n c ls lt)) (list_with_dependencies (λ l. l.link_with) t) (back n (Build t) at))

pub names_before : (ts : List TargetData) (n : ℕ) (t : BuildData) → LinkBack ts → static_at (linked_of ts) n ≡ Some t → list_all (λ m. nat_lt m n) (list_with_dependencies (λ l. l.link_with) t) ≡ true
names_before ts n t back e = by (slice_get (linked_of ts) n) refl e
  where
    by : (o : Option DeclaredTargetData) → slice_get (linked_of ts) n ≡ o → if_static (build_in o) ≡ Some t → list_all (λ m. nat_lt m n) (list_with_dependencies (λ l. l.link_with) t) ≡ true
    by None g f = absurd cc
    by (Some l) g f = back n (Build t) (sym (target_in ts n) ∙ ap (option_map (λ (k : DeclaredTargetData). k.target)) g ∙ ap Some (static_is l.target t f).target)
