-- Lists in which the first item that passes a test is the same, for every test.
use Rattle.std.proofs.Common.{◌≡◌, Bool, true, false, List, [], ◌∷◌, ◌++◌, Option, Some, None, is_some, not, cond, refl, sym, ap, ◌∙◌}
use Rattle.std.specs.Prelude.{◌&&◌, option_and_then}
use Rattle.std.specs.List.{find, list_all}
use Rattle.std.specs.Option.{option_or}
use Rattle.std.proofs.lemmas.List.Folds.{find-append}

-- the same first items
abbrev pub SameFirst : {X : Type 0} → List X → List X → Type 0
SameFirst {X = X} xs ys = (f : X → Bool) → find f ys ≡ find f xs

-- no test has its first item among the others
abbrev pub Has : {X : Type 0} → List X → List X → Type 0
Has {X = X} xs zs = (f : X → Bool) → find f (xs ++ zs) ≡ find f xs

pub same_append : {X : Type 0} (xs ys ls ms : List X) → SameFirst xs ys → SameFirst ls ms → SameFirst (xs ++ ls) (ys ++ ms)
same_append xs ys ls ms s t f =
    find-append f ys ms ∙ ap (λ o. option_or o (find f ms)) (s f) ∙ ap (λ o. option_or (find f xs) o) (t f) ∙ sym (find-append f xs ls)

pub same_without : {X : Type 0} (xs ys zs : List X) → SameFirst xs ys → Has ys zs → SameFirst (xs ++ zs) ys
same_without xs ys zs s h f = sym (h f) ∙ same_append xs ys zs zs s (λ g. refl) f

or_kept : {X : Type 0} (a b c : Option X) → option_or a c ≡ a → option_or (option_or a b) c ≡ option_or a b
or_kept (Some x) b c h = refl
or_kept None None c h = h
or_kept None (Some y) c h = refl

pub has_append : {X : Type 0} (xs ys zs : List X) → Has xs zs → Has (xs ++ ys) zs
has_append xs ys zs h f =
    find-append f (xs ++ ys) zs
    ∙ ap (λ o. option_or o (find f zs)) (find-append f xs ys)
    ∙ or_kept (find f xs) (find f ys) (find f zs) (sym (find-append f xs zs) ∙ h f)
    ∙ sym (find-append f xs ys)

or_twice : {X : Type 0} (a c : Option X) → option_or (option_or a c) c ≡ option_or a c
or_twice (Some x) c = refl
or_twice None None = refl
or_twice None (Some y) = refl

pub has_own : {X : Type 0} (xs zs : List X) → Has (xs ++ zs) zs
has_own xs zs f =
    find-append f (xs ++ zs) zs
    ∙ ap (λ o. option_or o (find f zs)) (find-append f xs zs)
    ∙ or_twice (find f xs) (find f zs)
    ∙ sym (find-append f xs zs)

-- ---- what follows

one_passes : {X : Type 0} (b r : Bool) (o : Option X) (x : X) → r ≡ not (is_some o) → (b && r) ≡ not (is_some (cond (not b) (Some x) o))
one_passes true r o x h = h
one_passes false r o x h = refl

all_found : {X : Type 0} (p : X → Bool) (xs : List X) → list_all p xs ≡ not (is_some (find (λ x. not (p x)) xs))
all_found p [] = refl
all_found p (x ∷ xs) = one_passes (p x) (list_all p xs) (find (λ y. not (p y)) xs) x (all_found p xs)

pub all_same : {X : Type 0} (xs ys : List X) → SameFirst xs ys → (p : X → Bool) → list_all p ys ≡ list_all p xs
all_same xs ys s p = all_found p ys ∙ ap (λ o. not (is_some o)) (s (λ x. not (p x))) ∙ sym (all_found p xs)

first_told : {X T : Type 0} (u : X → Option T) (x : X) (o : Option T) (r : Option T) (q : Option X) → u x ≡ o → r ≡ option_and_then u q
    → option_or o r ≡ option_and_then u (cond (is_some o) (Some x) q)
first_told u x None r q e h = h
first_told u x (Some t) r q e h = sym e

-- the first text that is told of an item
pub told_found : {X T : Type 0} (tell : List X → Option T) (u : X → Option T) → tell [] ≡ None
    → ((x : X) (xs : List X) → tell (x ∷ xs) ≡ option_or (u x) (tell xs)) → (xs : List X) → tell xs ≡ option_and_then u (find (λ x. is_some (u x)) xs)
told_found tell u none more [] = none
told_found tell u none more (x ∷ xs) =
    more x xs ∙ first_told u x (u x) (tell xs) (find (λ y. is_some (u y)) xs) refl (told_found tell u none more xs)
