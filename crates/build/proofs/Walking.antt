-- The walk keeps, from the last to the first, what the definition does.
use Rattle.std.proofs.Common.{◌≡◌, ℕ, zero, suc, ◌+◌, ◌<◌, ◌≤◌, Bool, true, false, List, [], ◌∷◌, ◌++◌, map, reverse, nat_eq, refl, sym, ap}
use Rattle.std.proofs.Common.{◌∙◌, subst, append-nil, append_assoc, arith}
use Rattle.std.specs.Prelude.{◌||◌, nat_lt, flat_map, slice_get, Option, Some, None, if◌then◌else◌}
use Rattle.std.specs.List.{list_any, list_all, sum_by}
use Rattle.std.proofs.lemmas.Bool.{eqb-true, eq-eqb, ltb-true, and_parts, or_left, or_right}
use Rattle.std.proofs.lemmas.Grind.{flat_map-append}
use Rattle.std.proofs.lemmas.List.Folds.{flat_map-map, list_any-append}
use Rattle.std.proofs.lemmas.List.Sorted.{IsPermutation-reverse, list_any-IsPermutation}
use Rattle.std.proofs.lemmas.List.Sums.{sum_by-append, sum_by-cons, sum_by_push}
use Rattle.support.specs.Sets.{insert_key}
use Rattle.build.specs.Data.{TargetData, BuildData}
use Rattle.build.specs.Sources.{list_with_dependencies}
use Rattle.build.specs.Libraries.{DeclaredTargetData, linked_of, before, before_all, last_kept, with_its_own, libraries_if_static, LinkBack}
use Rattle.build.specs.Walk.{static_at, steps_into, kept_into, steps_for, kept_after}
use Rattle.build.specs.declared.walk.Step.{Step}
use Rattle.build.specs.declared.walk.Step.TheVariants.{Enter, Leave}
use Rattle.build.proofs.KeptLast.{kept_more, before_all-append}
use Rattle.build.proofs.LinkedLists.{none_come, own_come, names_before}
use Rattle.build.proofs.Marking.{any_same, in_more, more_cases}

-- ---- numbers in lists

abbrev pub Within : List ℕ → List ℕ → Type 0
Within xs ys = (x : ℕ) → list_any (nat_eq x) xs ≡ true → list_any (nat_eq x) ys ≡ true

or_cases : {P : Type 0} (a b : Bool) → (a || b) ≡ true → (a ≡ true → P) → (b ≡ true → P) → P
or_cases true b e f g = f refl
or_cases false b e f g = g e

in_left : (xs ys : List ℕ) (x : ℕ) → list_any (nat_eq x) xs ≡ true → list_any (nat_eq x) (xs ++ ys) ≡ true
in_left xs ys x e = list_any-append (nat_eq x) xs ys ∙ or_left (list_any (nat_eq x) xs) (list_any (nat_eq x) ys) e

in_right : (xs ys : List ℕ) (x : ℕ) → list_any (nat_eq x) ys ≡ true → list_any (nat_eq x) (xs ++ ys) ≡ true
in_right xs ys x e = list_any-append (nat_eq x) xs ys ∙ or_right (list_any (nat_eq x) xs) (list_any (nat_eq x) ys) e

in_either : {P : Type 0} (xs ys : List ℕ) (x : ℕ) → list_any (nat_eq x) (xs ++ ys) ≡ true → (list_any (nat_eq x) xs ≡ true → P) → (list_any (nat_eq x) ys ≡ true → P) → P
in_either xs ys x e f g = or_cases (list_any (nat_eq x) xs) (list_any (nat_eq x) ys) (sym (list_any-append (nat_eq x) xs ys) ∙ e) f g

in_reverse : (ks : List ℕ) (x : ℕ) → list_any (nat_eq x) ks ≡ true → list_any (nat_eq x) (reverse ks) ≡ true
in_reverse ks x e = sym (list_any-IsPermutation (nat_eq x) ks (reverse ks) (IsPermutation-reverse ks)) ∙ e

-- the first of a list, and the others
in_first : {P : Type 0} (n : ℕ) (ns : List ℕ) (x : ℕ) → list_any (nat_eq x) (n ∷ ns) ≡ true → (x ≡ n → P) → (list_any (nat_eq x) ns ≡ true → P) → P
in_first n ns x e f g = or_cases (nat_eq x n) (list_any (nat_eq x) ns) e (λ h. f (eqb-true x n h)) g

-- ---- of equal numbers the last is kept

-- one that stands in the list already
before_in : (n : ℕ) (ys : List ℕ) → list_any (nat_eq n) ys ≡ true → before n ys ≡ ys
before_in n ys e = ap (λ b. if b then ys else n ∷ ys) e

pub before_all_in : (xs ys : List ℕ) → Within xs ys → before_all xs ys ≡ ys
before_all_in [] ys w = refl
before_all_in (x ∷ xs) ys w =
    ap (before x) (before_all_in xs ys (λ k h. w k (or_right (nat_eq k x) (list_any (nat_eq k) xs) h)))
    ∙ before_in x ys (w x (or_left (nat_eq x x) (list_any (nat_eq x) xs) (eq-eqb x x refl)))

first_in : (n : ℕ) (ys : List ℕ) → list_any (nat_eq n) (before n ys) ≡ true
first_in n ys = by (list_any (nat_eq n) ys) refl
  where
    by : (b : Bool) → list_any (nat_eq n) ys ≡ b → list_any (nat_eq n) (if b then ys else n ∷ ys) ≡ true
    by true e = e
    by false e = or_left (nat_eq n n) (list_any (nat_eq n) ys) (eq-eqb n n refl)

others_in : (n : ℕ) (ys : List ℕ) (x : ℕ) → list_any (nat_eq x) ys ≡ true → list_any (nat_eq x) (before n ys) ≡ true
others_in n ys x h = by (list_any (nat_eq n) ys)
  where
    by : (b : Bool) → list_any (nat_eq x) (if b then ys else n ∷ ys) ≡ true
    by true = h
    by false = or_right (nat_eq x n) (list_any (nat_eq x) ys) h

all_in : (xs ys : List ℕ) → Within xs (before_all xs ys)
all_in [] ys x h = absurd cc
all_in (n ∷ xs) ys x h =
    in_first n xs x h
    (λ same. subst (λ k. list_any (nat_eq k) (before n (before_all xs ys)) ≡ true) (sym same) (first_in n (before_all xs ys)))
    (λ g. others_in n (before_all xs ys) x (all_in xs ys x g))

pub none_more : (xs : List ℕ) → Within (last_kept xs) xs
none_more [] x h = h
none_more (n ∷ xs) x h = by (λ g. or_right (nat_eq x n) (list_any (nat_eq x) xs) (none_more xs x g)) (list_any (nat_eq n) (last_kept xs)) h
  where
    by : (list_any (nat_eq x) (last_kept xs) ≡ true → list_any (nat_eq x) (n ∷ xs) ≡ true) → (b : Bool)
        → list_any (nat_eq x) (if b then last_kept xs else n ∷ last_kept xs) ≡ true → list_any (nat_eq x) (n ∷ xs) ≡ true
    by behind true g = behind g
    by behind false g = or_cases (nat_eq x n) (list_any (nat_eq x) (last_kept xs)) g (λ a. or_left (nat_eq x n) (list_any (nat_eq x) xs) a) behind

-- what is kept of a list goes before others as the list does
pub kept_of_kept : (xs zs : List ℕ) → before_all (last_kept xs) zs ≡ before_all xs zs
kept_of_kept [] zs = refl
kept_of_kept (x ∷ xs) zs = by (kept_of_kept xs zs) (list_any (nat_eq x) (last_kept xs)) refl
  where
    by : before_all (last_kept xs) zs ≡ before_all xs zs → (b : Bool) → list_any (nat_eq x) (last_kept xs) ≡ b
        → before_all (if b then last_kept xs else x ∷ last_kept xs) zs ≡ before x (before_all xs zs)
    by same true e = same ∙ sym (before_in x (before_all xs zs) (ap (list_any (nat_eq x)) (sym same) ∙ all_in (last_kept xs) zs x e))
    by same false e = ap (before x) same

-- ---- what steps stand for

-- what comes with a library
abbrev pub own : List DeclaredTargetData → ℕ → List ℕ
own ls n = libraries_if_static (slice_get ls n)

abbrev pub stands : List DeclaredTargetData → Step → List ℕ
stands ls (Enter n) = with_its_own ls n
stands ls (Leave n) = n ∷ []

abbrev pub all_of : List DeclaredTargetData → List Step → List ℕ
all_of ls steps = flat_map (stands ls) steps

-- what comes with each library that is to be left is kept, or stands behind it
abbrev pub Left : List DeclaredTargetData → List Step → (kept : List ℕ) → Type 0
Left ls [] kept = Unit {0}
Left ls (Enter n ∷ ss) kept = Left ls ss kept
Left ls (Leave n ∷ ss) kept = Within (own ls n) (all_of ls ss ++ kept) × Left ls ss kept

-- where the walk stands: what is kept of all these numbers is what is kept of those that steps stand for, before those that are kept
pub record Walks (ls : List DeclaredTargetData) (all : List ℕ) (steps : List Step) (kept : List ℕ) : Type 0 where
  pub order : before_all (all_of ls steps) (reverse kept) ≡ last_kept all
  pub closed : (n : ℕ) → list_any (nat_eq n) kept ≡ true → Within (own ls n) kept
  pub left : Left ls steps kept

enters : (ls : List DeclaredTargetData) (ns : List ℕ) → all_of ls (map Enter ns) ≡ flat_map (with_its_own ls) ns
enters ls ns = flat_map-map (stands ls) Enter ns

left_enters : (ls : List DeclaredTargetData) (ns kept : List ℕ) → Left ls (map Enter ns) kept
left_enters ls [] kept = tt
left_enters ls (n ∷ ns) kept = left_enters ls ns kept

-- at its beginning
pub walks_first : (ls : List DeclaredTargetData) (ns : List ℕ) → Walks ls (flat_map (with_its_own ls) ns) (map Enter ns) []
walks_first ls ns = record {
  order = ap (λ l. before_all l []) (enters ls ns);
  closed = λ n h. absurd cc;
  left = left_enters ls ns [];
}

-- other steps at the end
left_swapped : (ls : List DeclaredTargetData) (ss old bs : List Step) (kept now : List ℕ) → Within (all_of ls old ++ kept) (all_of ls bs ++ now) → Left ls bs now
    → Left ls (ss ++ old) kept → Left ls (ss ++ bs) now
left_swapped ls [] old bs kept now w there here = there
left_swapped ls (Enter n ∷ ss) old bs kept now w there here = left_swapped ls ss old bs kept now w there here
left_swapped ls (Leave n ∷ ss) old bs kept now w there here = (λ x h. over x (here.0 x h), left_swapped ls ss old bs kept now w there here.1)
  where
    apart : (cs : List Step) (ks : List ℕ) → all_of ls (ss ++ cs) ++ ks ≡ all_of ls ss ++ (all_of ls cs ++ ks)
    apart cs ks = ap (λ l. l ++ ks) (flat_map-append (stands ls) ss cs) ∙ append_assoc (all_of ls ss) (all_of ls cs) ks

    over : (x : ℕ) → list_any (nat_eq x) (all_of ls (ss ++ old) ++ kept) ≡ true → list_any (nat_eq x) (all_of ls (ss ++ bs) ++ now) ≡ true
    over x h =
        ap (list_any (nat_eq x)) (apart bs now)
        ∙ in_either (all_of ls ss) (all_of ls old ++ kept) x (sym (ap (list_any (nat_eq x)) (apart old kept)) ∙ h)
        (λ a. in_left (all_of ls ss) (all_of ls bs ++ now) x a)
        (λ a. in_right (all_of ls ss) (all_of ls bs ++ now) x (w x a))

left_last : (ls : List DeclaredTargetData) (ss : List Step) (n : ℕ) (kept : List ℕ) → Left ls (ss ++ Leave n ∷ []) kept → Within (own ls n) kept
left_last ls [] n kept h = h.0
left_last ls (Enter m ∷ ss) n kept h = left_last ls ss n kept h
left_last ls (Leave m ∷ ss) n kept h = left_last ls ss n kept h.1

-- what steps and one more stand for
with_last : (ls : List DeclaredTargetData) (ss : List Step) (s : Step) (n : ℕ) (ns : List ℕ) → stands ls s ≡ n ∷ ns → all_of ls (ss ++ s ∷ []) ≡ all_of ls ss ++ n ∷ ns
with_last ls ss s n ns e = flat_map-append (stands ls) ss (s ∷ []) ∙ ap (λ l. all_of ls ss ++ l) (append-nil (stands ls s) ∙ e)

-- ---- one step

-- a number is kept whose own are
kept_step : (ls : List DeclaredTargetData) (all : List ℕ) (ss : List Step) (s : Step) (n : ℕ) (kept : List ℕ) → stands ls s ≡ n ∷ [] → Within (own ls n) kept
    → Walks ls all (ss ++ s ∷ []) kept → Walks ls all (ss ++ []) (insert_key nat_eq kept n)
kept_step ls all ss s n kept e inside w =
    let now = insert_key nat_eq kept n in
    record {
      order =
          kept_more all (all_of ls (ss ++ [])) (all_of ls (ss ++ s ∷ [])) kept now n
          (with_last ls ss s n [] e ∙ ap (λ r. all_of ls r ++ n ∷ []) (sym (append-nil ss))) refl w.order;
      closed = λ m h.
          more_cases kept n m h
          (λ same x g. in_more kept n x (inside x (ap (λ k. list_any (nat_eq x) (own ls k)) (sym same) ∙ g)))
          (λ old x g. in_more kept n x (w.closed m old x g));
      left = left_swapped ls ss (s ∷ []) [] kept now (λ x h. over x (ap (λ l. list_any (nat_eq x) ((l ++ []) ++ kept)) (sym e) ∙ h)) tt w.left;
    }
  where
    over : (x : ℕ) → list_any (nat_eq x) (n ∷ kept) ≡ true → list_any (nat_eq x) (insert_key nat_eq kept n) ≡ true
    over x h = in_first n kept x h
        (λ same. subst (λ k. list_any (nat_eq k) (insert_key nat_eq kept n) ≡ true) (sym same) (any_same kept n))
        (λ g. in_more kept n x g)

-- what is kept is not entered again
marked_step : (ls : List DeclaredTargetData) (all : List ℕ) (ss : List Step) (n : ℕ) (kept : List ℕ) → list_any (nat_eq n) kept ≡ true
    → Walks ls all (ss ++ Enter n ∷ []) kept → Walks ls all (ss ++ []) kept
marked_step ls all ss n kept e w =
    record {
      order =
          ap (λ r. before_all (all_of ls r) (reverse kept)) (append-nil ss)
          ∙ ap (before_all (all_of ls ss)) (sym (before_all_in (n ∷ own ls n) (reverse kept) (λ x h. in_reverse kept x (inside x h))))
          ∙ sym (before_all-append (all_of ls ss) (n ∷ own ls n) (reverse kept))
          ∙ ap (λ l. before_all l (reverse kept)) (sym (with_last ls ss (Enter n) n (own ls n) refl))
          ∙ w.order;
      closed = w.closed;
      left = left_swapped ls ss (Enter n ∷ []) [] kept kept
          (λ x h. in_either (n ∷ own ls n) kept x (ap (λ l. list_any (nat_eq x) (l ++ kept)) (sym (append-nil (n ∷ own ls n))) ∙ h) (inside x) (λ g. g))
          tt w.left;
    }
  where
    inside : (x : ℕ) → list_any (nat_eq x) (n ∷ own ls n) ≡ true → list_any (nat_eq x) kept ≡ true
    inside x h = in_first n (own ls n) x h (λ same. ap (λ k. list_any (nat_eq k) kept) same ∙ e) (λ g. w.closed n e x g)

-- a static library is gone into
static_step : (ls : List DeclaredTargetData) (all : List ℕ) (ss : List Step) (n : ℕ) (ns kept : List ℕ) → own ls n ≡ last_kept (flat_map (with_its_own ls) ns)
    → Walks ls all (ss ++ Enter n ∷ []) kept → Walks ls all (ss ++ Leave n ∷ map Enter ns) kept
static_step ls all ss n ns kept e w =
    let behind = flat_map (with_its_own ls) ns in
    let after = Leave n ∷ map Enter ns in
    let are : all_of ls after ≡ n ∷ behind = ap (λ l. n ∷ l) (enters ls ns) in
    record {
      order =
          ap (λ l. before_all l (reverse kept)) (flat_map-append (stands ls) ss after ∙ ap (λ l. all_of ls ss ++ l) are)
          ∙ before_all-append (all_of ls ss) (n ∷ behind) (reverse kept)
          ∙ ap (λ l. before_all (all_of ls ss) (before n l)) (sym (kept_of_kept behind (reverse kept)))
          ∙ ap (λ l. before_all (all_of ls ss) (before_all (n ∷ l) (reverse kept))) (sym e)
          ∙ sym (before_all-append (all_of ls ss) (n ∷ own ls n) (reverse kept))
          ∙ ap (λ l. before_all l (reverse kept)) (sym (with_last ls ss (Enter n) n (own ls n) refl))
          ∙ w.order;
      closed = w.closed;
      left = left_swapped ls ss (Enter n ∷ []) after kept kept
          (λ x h. ap (λ l. list_any (nat_eq x) (l ++ kept)) are ∙ over x (ap (λ l. list_any (nat_eq x) (l ++ kept)) (sym (append-nil (n ∷ own ls n))) ∙ h))
          (λ x h. in_left (all_of ls (map Enter ns)) kept x (ap (list_any (nat_eq x)) (enters ls ns) ∙ inside x h), left_enters ls ns kept)
          w.left;
    }
  where
    inside : (x : ℕ) → list_any (nat_eq x) (own ls n) ≡ true → list_any (nat_eq x) (flat_map (with_its_own ls) ns) ≡ true
    inside x h = none_more (flat_map (with_its_own ls) ns) x (ap (list_any (nat_eq x)) (sym e) ∙ h)

    over : (x : ℕ) → list_any (nat_eq x) ((n ∷ own ls n) ++ kept) ≡ true → list_any (nat_eq x) ((n ∷ flat_map (with_its_own ls) ns) ++ kept) ≡ true
    over x h =
        let behind = flat_map (with_its_own ls) ns in
        in_either (n ∷ own ls n) kept x h
        (λ a. in_left (n ∷ behind) kept x
        (or_cases (nat_eq x n) (list_any (nat_eq x) (own ls n)) a
        (λ b. or_left (nat_eq x n) (list_any (nat_eq x) behind) b)
        (λ b. or_right (nat_eq x n) (list_any (nat_eq x) behind) (inside x b))))
        (λ a. in_right (n ∷ behind) kept x a)

-- each step keeps where the walk stands
pub walks_step : (ts : List TargetData) (all : List ℕ) (ss : List Step) (s : Step) (kept : List ℕ) → LinkBack ts → Walks (linked_of ts) all (ss ++ s ∷ []) kept
    → Walks (linked_of ts) all (ss ++ steps_for (linked_of ts) kept s) (kept_after (linked_of ts) kept s)
walks_step ts all ss (Leave n) kept back w = kept_step (linked_of ts) all ss (Leave n) n kept refl (left_last (linked_of ts) ss n kept w.left) w
walks_step ts all ss (Enter n) kept back w = by (list_any (nat_eq n) kept) refl
  where
    ls : List DeclaredTargetData
    ls = linked_of ts

    into : (o : Option BuildData) → static_at ls n ≡ o → Walks ls all (ss ++ steps_into n o) (kept_into n o kept)
    into None e = let none = none_come ls n e in kept_step ls all ss (Enter n) n kept (ap (λ l. n ∷ l) none) (λ x h. absurd (nowhere x (ap (list_any (nat_eq x)) (sym none) ∙ h))) w
      where
        nowhere : (x : ℕ) → list_any (nat_eq x) [] ≡ true → ⊥
        nowhere x h = absurd cc
    into (Some t) e = static_step ls all ss n (list_with_dependencies (λ l. l.link_with) t) kept (own_come ts n t back e) w

    by : (b : Bool) → list_any (nat_eq n) kept ≡ b → Walks ls all (ss ++ (if b then [] else steps_into n (static_at ls n))) (if b then kept else kept_into n (static_at ls n) kept)
    by true e = marked_step ls all ss n kept e w
    by false e = into (static_at ls n) refl

-- ---- it ends

abbrev named : Option BuildData → List ℕ
named None = []
named (Some t) = list_with_dependencies (λ l. l.link_with) t

-- how many steps a library is at most, so many levels deep, where nothing is shared
abbrev grown : List DeclaredTargetData → ℕ → ℕ → ℕ
grown ls zero n = 2
grown ls (suc deep) n = 2 + sum_by (grown ls deep) (named (static_at ls n))

abbrev pub weight : List DeclaredTargetData → Step → ℕ
weight ls (Enter n) = grown ls (suc n) n
weight ls (Leave n) = 1

abbrev pub weights : List DeclaredTargetData → List Step → ℕ
weights ls steps = sum_by (weight ls) steps

sum_le : (f g : ℕ → ℕ) → ((x : ℕ) → f x ≤ g x) → (xs : List ℕ) → sum_by f xs ≤ sum_by g xs
sum_le f g h [] = let a : sum_by f [] ≡ 0 = refl in omega (arith, a)
sum_le f g h (x ∷ xs) = omega (arith, h x, sum_le f g h xs, sum_by-cons f x xs, sum_by-cons g x xs)

grown_more : (ls : List DeclaredTargetData) (deep n : ℕ) → grown ls (suc deep) n ≡ 2 + sum_by (grown ls deep) (named (static_at ls n))
grown_more ls deep n = refl

least : (ls : List DeclaredTargetData) (deep n : ℕ) → 2 ≤ grown ls deep n
least ls zero n = let a : grown ls 0 n ≡ 2 = refl in omega (arith, a)
least ls (suc deep) n = omega (arith, grown_more ls deep n)

deeper : (ls : List DeclaredTargetData) (a b n : ℕ) → a ≤ b → grown ls a n ≤ grown ls b n
deeper ls zero b n le = let a : grown ls 0 n ≡ 2 = refl in omega (arith, a, least ls b n)
deeper ls (suc a) zero n le = absurd (omega (arith, le))
deeper ls (suc a) (suc b) n le =
    omega (arith, sum_le (grown ls a) (grown ls b) (λ x. deeper ls a b x (omega (arith, le))) (named (static_at ls n)), grown_more ls a n, grown_more ls b n)

below : (ls : List DeclaredTargetData) (n : ℕ) (ns : List ℕ) → list_all (λ m. nat_lt m n) ns ≡ true → sum_by (weight ls) (map Enter ns) ≤ sum_by (grown ls n) ns
below ls n [] e = let a : sum_by (weight ls) [] ≡ 0 = refl in omega (arith, a)
below ls n (c ∷ cs) e =
    let p = and_parts (nat_lt c n) (list_all (λ m. nat_lt m n) cs) e in
    let lt = ltb-true c n p.0 in
    let one : weight ls (Enter c) ≡ grown ls (suc c) c = refl in
    omega (arith, deeper ls (suc c) n c (omega (arith, lt)), below ls n cs p.1, one, sum_by-cons (weight ls) (Enter c) (map Enter cs), sum_by-cons (grown ls n) c cs)

-- what comes in place of a step weighs less
lighter : (ts : List TargetData) (kept : List ℕ) (s : Step) → LinkBack ts → sum_by (weight (linked_of ts)) (steps_for (linked_of ts) kept s) < weight (linked_of ts) s
lighter ts kept (Leave n) back = let a : sum_by (weight (linked_of ts)) [] ≡ 0 = refl in let b : weight (linked_of ts) (Leave n) ≡ 1 = refl in omega (arith, a, b)
lighter ts kept (Enter n) back = by (list_any (nat_eq n) kept)
  where
    ls : List DeclaredTargetData
    ls = linked_of ts

    into : (o : Option BuildData) → static_at ls n ≡ o → sum_by (weight ls) (steps_into n o) < 2 + sum_by (grown ls n) (named o)
    into None e = let a : sum_by (weight ls) [] ≡ 0 = refl in omega (arith, a)
    into (Some t) e =
        let one : weight ls (Leave n) ≡ 1 = refl in
        let ns = list_with_dependencies (λ l. l.link_with) t in
        omega (arith, below ls n ns (names_before ts n t back e), one, sum_by-cons (weight ls) (Leave n) (map Enter ns))

    by : (b : Bool) → sum_by (weight ls) (if b then [] else steps_into n (static_at ls n)) < grown ls (suc n) n
    by true = let a : sum_by (weight ls) [] ≡ 0 = refl in omega (arith, a, least ls (suc n) n)
    by false = into (static_at ls n) refl

pub weights_less : (ts : List TargetData) (kept : List ℕ) (ss : List Step) (s : Step) → LinkBack ts
    → weights (linked_of ts) (ss ++ steps_for (linked_of ts) kept s) < weights (linked_of ts) (ss ++ s ∷ [])
weights_less ts kept ss s back =
    let ls = linked_of ts in
    omega (arith, lighter ts kept s back, sum_by-append (weight ls) ss (steps_for ls kept s), sum_by_push (weight ls) ss s)
