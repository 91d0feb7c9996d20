-- Of equal numbers the last is kept.
use Rattle.std.proofs.Common.{◌≡◌, ℕ, Bool, true, false, List, [], ◌∷◌, ◌++◌, reverse, nat_eq, refl, sym, ap, ◌∙◌}
use Rattle.std.specs.Prelude.{if◌then◌else◌}
use Rattle.std.specs.List.{list_any}
use Rattle.std.proofs.lemmas.List.{reverse-append}
use Rattle.std.proofs.lemmas.List.Sorted.{IsPermutation-reverse, list_any-IsPermutation}
use Rattle.support.specs.Sets.{insert_key}
use Rattle.build.specs.Libraries.{before, before_all, last_kept}

before_all-push : (xs : List ℕ) (x : ℕ) (ys : List ℕ) → before_all (xs ++ x ∷ []) ys ≡ before_all xs (before x ys)
before_all-push [] x ys = refl
before_all-push (z ∷ xs) x ys = ap (before z) (before_all-push xs x ys)

either_way : (b : Bool) (ks : List ℕ) (x : ℕ) → reverse (if b then ks else ks ++ x ∷ []) ≡ (if b then reverse ks else x ∷ reverse ks)
either_way true ks x = refl
either_way false ks x = reverse-append ks (x ∷ [])

pub reverse-insert_key : (ks : List ℕ) (x : ℕ) → reverse (insert_key nat_eq ks x) ≡ before x (reverse ks)
reverse-insert_key ks x =
    either_way (list_any (nat_eq x) ks) ks x
    ∙ ap (λ b. if b then reverse ks else x ∷ reverse ks) (list_any-IsPermutation (nat_eq x) ks (reverse ks) (IsPermutation-reverse ks))

-- one number more from the end
pub kept_more : (all xs old ks new : List ℕ) (x : ℕ) → old ≡ xs ++ x ∷ [] → new ≡ insert_key nat_eq ks x
    → before_all old (reverse ks) ≡ last_kept all → before_all xs (reverse new) ≡ last_kept all
kept_more all xs old ks new x e f h =
    ap (λ l. before_all xs (reverse l)) f
    ∙ ap (before_all xs) (reverse-insert_key ks x)
    ∙ sym (before_all-push xs x (reverse ks))
    ∙ ap (λ l. before_all l (reverse ks)) (sym e)
    ∙ h

pub before_all-append : (xs ys zs : List ℕ) → before_all (xs ++ ys) zs ≡ before_all xs (before_all ys zs)
before_all-append [] ys zs = refl
before_all-append (x ∷ xs) ys zs = ap (before x) (before_all-append xs ys zs)
