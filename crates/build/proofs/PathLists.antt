-- Lists of paths.
use Rattle.std.proofs.Common.{◌≡◌, ℕ, ◌+◌, ◌≤◌, Bool, true, false, List, [], ◌∷◌, ◌++◌, bytes_eq, refl, sym, ap, ◌∙◌, arith}
use Rattle.std.specs.Prelude.{◌||◌, if◌then◌else◌, Option, Some, None}
use Rattle.std.proofs.lemmas.List.Folds.{list_any-append}
use Rattle.std.proofs.lemmas.Slice.Eq.{bytes_eq-Decides}
use Rattle.build.specs.edge.Texts.{Path, holds}
use Rattle.build.specs.project.Laws.{first_taken, times, AtMostOnce}
use Rattle.build.specs.project.Whole.{SamePaths}

same_push : (xs ys : List Path) (x : Path) → SamePaths xs ys → SamePaths (xs ++ x ∷ []) (ys ++ x ∷ [])
same_push xs ys x same p =
    list_any-append (bytes_eq p) xs (x ∷ []) ∙ ap (λ b. b || holds p (x ∷ [])) (same p) ∙ sym (list_any-append (bytes_eq p) ys (x ∷ []))

pub taken_same : (xs ys ps : List Path) → SamePaths xs ys → first_taken xs ps ≡ first_taken ys ps
taken_same xs ys [] same = refl
taken_same xs ys (p ∷ ps) same =
    ap (λ b. if b then Some p else first_taken (xs ++ p ∷ []) ps) (same p)
    ∙ ap (λ o. if holds p ys then Some p else o) (taken_same (xs ++ p ∷ []) (ys ++ p ∷ []) ps (same_push xs ys p same))

pub times-append : (p : Path) (xs ys : List Path) → times p (xs ++ ys) ≡ times p xs + times p ys
times-append p [] ys = omega arith
times-append p (x ∷ xs) ys = omega (arith, times-append p xs ys)

absent_here : (b c : Bool) (n : ℕ) → (b || c) ≡ false → (c ≡ false → n ≡ 0) → (if b then 1 else 0) + n ≡ 0
absent_here true c n e h = absurd cc
absent_here false c n e h = omega (arith, h e)

pub times_absent : (p : Path) (xs : List Path) → holds p xs ≡ false → times p xs ≡ 0
times_absent p [] e = refl
times_absent p (x ∷ xs) e = absent_here (bytes_eq p x) (holds p xs) (times p xs) e (times_absent p xs)

one_more : (b : Bool) (n : ℕ) → n ≤ 1 → (b ≡ true → n ≡ 0) → n + ((if b then 1 else 0) + 0) ≤ 1
one_more true n le h = let z = h refl in omega arith
one_more false n le h = omega arith

once_push : (seen : List Path) (x : Path) → AtMostOnce seen → holds x seen ≡ false → AtMostOnce (seen ++ x ∷ [])
once_push seen x once new p =
    rw (times-append p seen (x ∷ []))
    (one_more (bytes_eq p x) (times p seen) (once p) (λ same. ap (λ q. times q seen) (equal_paths p x same) ∙ times_absent x seen new))
  where
    equal_paths : (p x : Path) → bytes_eq p x ≡ true → p ≡ x
    equal_paths p x e = (bytes_eq-Decides p x).0 e

none_first : (b : Bool) (x : Path) (later : Option Path) → (if b then Some x else later) ≡ None → b ≡ false
none_first true x later e = absurd cc
none_first false x later e = refl

none_later : (b : Bool) (x : Path) (later : Option Path) → (if b then Some x else later) ≡ None → later ≡ None
none_later true x later e = absurd cc
none_later false x later e = e

pub once_more : (seen ps : List Path) → AtMostOnce seen → first_taken seen ps ≡ None → AtMostOnce (seen ++ ps)
once_more seen [] once new = λ p. rw (times-append p seen []) (let h = once p in omega arith)
once_more seen (x ∷ ps) once new =
    let a = none_first (holds x seen) x (first_taken (seen ++ x ∷ []) ps) new in
    let b = none_later (holds x seen) x (first_taken (seen ++ x ∷ []) ps) new in
    λ p. let h = once_more (seen ++ x ∷ []) ps (once_push seen x once a) b p in
    let e = times-append p (seen ++ x ∷ []) ps in let f = times-append p seen (x ∷ []) in let g = times-append p seen (x ∷ ps) in omega arith
