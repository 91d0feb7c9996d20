-- The lists in which labels are kept.
use Rattle.std.proofs.Common.{◌≡◌, ℕ, zero, suc, ◌<◌, ◌≤◌, Bool, true, false, List, [], ◌∷◌, ◌++◌, length, get_or, set, bytes_eq, Result, Ok, Err, refl, sym, ap, ap₂, ◌∙◌, arith}
use Rattle.std.specs.Prelude.{not, ◌&&◌, ◌||◌, Some, if◌then◌else◌}
use Rattle.std.specs.List.{AllByRecursion, IsDistinct, list_any}
use Rattle.std.proofs.lemmas.List.{length-append}
use Rattle.std.proofs.lemmas.List.Folds.{list_any-append}
use Rattle.std.proofs.lemmas.List.Quantifiers.{position-Some}
use Rattle.std.proofs.lemmas.Slice.Eq.{bytes_eq-Decides}
use Rattle.std.specs.Result.{IfOk, OnOk}
use Rattle.std.specs.declared.alloc.AllocError.{AllocError}
use Rattle.code.specs.Names.{number_in, with_name}
use Rattle.meson.specs.Labels.{Knows, held_in}
use Rattle.meson.specs.Questions.{is_told, same_label}
use Rattle.meson.specs.declared.labels.Labels.{Labels}

-- ---- a name that was put

with_as : (b : List ℕ) (old new : List (List ℕ)) (any : Bool) → new ≡ with_name b old → list_any (bytes_eq b) old ≡ any
    → new ≡ (if any then old else old ++ b ∷ [])
with_as b old new any is e = is ∙ ap (λ c. if c then old else old ++ b ∷ []) e

pub kept : (b : List ℕ) (old new : List (List ℕ)) → new ≡ with_name b old → length new ≤ length old → new ≡ old
kept b old new is le = by (list_any (bytes_eq b) old) refl
  where
    by : (any : Bool) → list_any (bytes_eq b) old ≡ any → new ≡ old
    by true e = with_as b old new true is e
    by false e =
        let longer = ap (λ l. length l) (with_as b old new false is e) ∙ length-append old (b ∷ []) in
        absurd (omega (arith, longer, le))

pub grown : (b : List ℕ) (old new : List (List ℕ)) → new ≡ with_name b old → length old < length new → new ≡ old ++ b ∷ []
grown b old new is lt = by (list_any (bytes_eq b) old) refl
  where
    by : (any : Bool) → list_any (bytes_eq b) old ≡ any → new ≡ old ++ b ∷ []
    by true e =
        let same = ap (λ l. length l) (with_as b old new true is e) in
        absurd (omega (arith, same, lt))
    by false e = with_as b old new false is e

pub name_within : (b : List ℕ) (names : List (List ℕ)) (n : ℕ) → number_in b names ≡ Some n → n < length names
name_within b names n e = (position-Some (bytes_eq b) names n [] e).0

pub name_is : (b : List ℕ) (names : List (List ℕ)) (n : ℕ) → number_in b names ≡ Some n → get_or names n [] ≡ b
name_is b names n e = let p = position-Some (bytes_eq b) names n [] e in sym ((bytes_eq-Decides b (get_or names n [])).0 p.1)

-- ---- one more list of first parts

none_of : (x c : Bool) → c ≡ false → ((false && x) || c) ≡ false
none_of x c e = e

pub held_push : (bs : List (List ℕ)) (hss : List (List (List ℕ))) (b : List ℕ) (l : List ℕ × List ℕ) → length bs ≡ length hss
    → held_in (bs ++ b ∷ []) (hss ++ [] ∷ []) l ≡ held_in bs hss l
held_push [] [] b l e = refl
held_push [] (hs ∷ hss) b l e = absurd (omega (arith, e))
held_push (c ∷ bs) [] b l e = absurd (omega (arith, e))
held_push (c ∷ bs) (hs ∷ hss) b l e =
    let le : length bs ≡ length hss = omega (arith, e) in
    ap (λ x. (list_any (bytes_eq l.0) hs && bytes_eq l.1 c) || x) (held_push bs hss b l le)

-- ---- one more first part

or_same : (a x y r : Bool) → (((x || y) && a) || r) ≡ (((x && a) || r) || (y && a))
or_same true true y r = refl
or_same true false true true = refl
or_same true false true false = refl
or_same true false false true = refl
or_same true false false false = refl
or_same false true true true = refl
or_same false true true false = refl
or_same false true false true = refl
or_same false true false false = refl
or_same false false true true = refl
or_same false false true false = refl
or_same false false false true = refl
or_same false false false false = refl

or_later : (a b c : Bool) → (a || (b || c)) ≡ ((a || b) || c)
or_later true b c = refl
or_later false b c = refl

or_nothing : (a : Bool) → (a || false) ≡ a
or_nothing true = refl
or_nothing false = refl

known_any : (h : List ℕ) (hs : List (List ℕ)) (q : List ℕ) (same : Bool) → bytes_eq q h ≡ same → list_any (bytes_eq h) hs ≡ true
    → list_any (bytes_eq q) hs ≡ (list_any (bytes_eq q) hs || same)
known_any h hs q true e known =
    let is : q ≡ h = (bytes_eq-Decides q h).0 e in
    let all = ap (λ x. list_any (bytes_eq x) hs) is ∙ known in
    all ∙ sym (ap (λ b. b || true) all)
known_any h hs q false e known = sym (or_nothing (list_any (bytes_eq q) hs))

pub any_with : (h : List ℕ) (hs : List (List ℕ)) (q : List ℕ) → list_any (bytes_eq q) (with_name h hs) ≡ (list_any (bytes_eq q) hs || bytes_eq q h)
any_with h hs q = by (list_any (bytes_eq h) hs) refl
  where
    by : (any : Bool) → list_any (bytes_eq h) hs ≡ any → list_any (bytes_eq q) (with_name h hs) ≡ (list_any (bytes_eq q) hs || bytes_eq q h)
    by true e = ap (λ c. list_any (bytes_eq q) (if c then hs else hs ++ h ∷ [])) e ∙ known_any h hs q (bytes_eq q h) refl e
    by false e =
        ap (λ c. list_any (bytes_eq q) (if c then hs else hs ++ h ∷ [])) e
        ∙ list_any-append (bytes_eq q) hs (h ∷ [])
        ∙ ap (λ x. list_any (bytes_eq q) hs || x) (or_nothing (bytes_eq q h))

pub held_set : (bs : List (List ℕ)) (hss : List (List (List ℕ))) (n : ℕ) (h : List ℕ) (l : List ℕ × List ℕ) → length bs ≡ length hss → n < length bs
    → held_in bs (set hss n (with_name h (get_or hss n []))) l ≡ (held_in bs hss l || same_label l (h, get_or bs n []))
held_set [] hss n h l e lt = absurd (omega (arith, lt))
held_set (b ∷ bs) [] n h l e lt = absurd (omega (arith, e))
held_set (b ∷ bs) (hs ∷ hss) zero h l e lt =
    ap (λ x. (x && bytes_eq l.1 b) || held_in bs hss l) (any_with h hs l.0)
    ∙ or_same (bytes_eq l.1 b) (list_any (bytes_eq l.0) hs) (bytes_eq l.0 h) (held_in bs hss l)
held_set (b ∷ bs) (hs ∷ hss) (suc n) h l e lt =
    let le : length bs ≡ length hss = omega (arith, e) in
    let less : n < length bs = omega (arith, lt) in
    ap (λ x. (list_any (bytes_eq l.0) hs && bytes_eq l.1 b) || x) (held_set bs hss n h l le less)
    ∙ or_later (list_any (bytes_eq l.0) hs && bytes_eq l.1 b) (held_in bs hss l) (same_label l (h, get_or bs n []))

-- ---- the first parts of one second part

no_or : (u v w : Bool) → v ≡ false → w ≡ false → ((u && v) || w) ≡ false
no_or true v w e f = ap (λ x. x || w) e ∙ f
no_or false v w e f = f

absent : (x : List ℕ) (bs : List (List ℕ)) (hss : List (List (List ℕ))) (h : List ℕ) → AllByRecursion (λ y. bytes_eq x y ≡ false) bs
    → held_in bs hss (h, x) ≡ false
absent x [] hss h a = refl
absent x (b ∷ bs) [] h a = refl
absent x (b ∷ bs) (hs ∷ hss) h a = no_or (list_any (bytes_eq h) hs) (bytes_eq x b) (held_in bs hss (h, x)) a.0 (absent x bs hss h a.1)

apart_at : (x : List ℕ) (bs : List (List ℕ)) (n : ℕ) → AllByRecursion (λ y. bytes_eq x y ≡ false) bs → n < length bs → bytes_eq x (get_or bs n []) ≡ false
apart_at x [] n a lt = absurd (omega (arith, lt))
apart_at x (b ∷ bs) zero a lt = a.0
apart_at x (b ∷ bs) (suc n) a lt = apart_at x bs n a.1 (omega (arith, lt))

other_way : (x y : List ℕ) (c : Bool) → bytes_eq y x ≡ c → bytes_eq x y ≡ false → bytes_eq y x ≡ false
other_way x y true e f = absurd (let is = (bytes_eq-Decides y x).0 e in let t = (bytes_eq-Decides x y).1 (sym is) in cc)
other_way x y false e f = e

only_first : (u v w : Bool) → v ≡ true → w ≡ false → ((u && v) || w) ≡ u
only_first true v w e f = ap (λ x. x || w) e
only_first false v w e f = f

no_first : (u v w : Bool) → v ≡ false → ((u && v) || w) ≡ w
no_first true v w e = ap (λ x. x || w) e
no_first false v w e = refl

pub held_at : (bs : List (List ℕ)) (hss : List (List (List ℕ))) (n : ℕ) (h b : List ℕ) → length bs ≡ length hss → n < length bs → IsDistinct bytes_eq bs
    → get_or bs n [] ≡ b → held_in bs hss (h, b) ≡ list_any (bytes_eq h) (get_or hss n [])
unfolding IsDistinct
held_at [] hss n h b e lt d at = absurd (omega (arith, lt))
held_at (c ∷ bs) [] n h b e lt d at = absurd (omega (arith, e))
held_at (c ∷ bs) (hs ∷ hss) zero h b e lt d at =
    only_first (list_any (bytes_eq h) hs) (bytes_eq b c) (held_in bs hss (h, b)) ((bytes_eq-Decides b c).1 (sym at))
    (ap (λ x. held_in bs hss (h, x)) (sym at) ∙ absent c bs hss h d.0)
held_at (c ∷ bs) (hs ∷ hss) (suc n) h b e lt d at =
    let le : length bs ≡ length hss = omega (arith, e) in
    let less : n < length bs = omega (arith, lt) in
    no_first (list_any (bytes_eq h) hs) (bytes_eq b c) (held_in bs hss (h, b))
    (other_way c b (bytes_eq b c) refl (ap (λ x. bytes_eq c x) (sym at) ∙ apart_at c bs n d.0 less))
    ∙ held_at bs hss n h b le less d.1 at

-- ---- one more label

both : (a b : Bool) → (a && b) ≡ true → (a ≡ true) × (b ≡ true)
both true b e = (refl, e)
both false b e = absurd cc

known_told : (l x : List ℕ × List ℕ) (told : List (List ℕ × List ℕ)) (same : Bool) → same_label l x ≡ same → is_told x told ≡ true
    → (is_told l told || same) ≡ is_told l told
known_told l x told true e known =
    let p = both (bytes_eq l.0 x.0) (bytes_eq l.1 x.1) e in
    let all : is_told l told ≡ true = ap₂ (λ (h b : List ℕ). list_any (λ (m : List ℕ × List ℕ). bytes_eq h m.0 && bytes_eq b m.1) told)
    ((bytes_eq-Decides l.0 x.0).0 p.0) ((bytes_eq-Decides l.1 x.1).0 p.1) ∙ known in
    ap (λ b. b || true) all ∙ sym all
known_told l x told false e known = or_nothing (is_told l told)

not_false : (b : Bool) → false ≡ not b → b ≡ true
not_false true e = refl
not_false false e = absurd cc

told_with : (x : List ℕ × List ℕ) (told : List (List ℕ × List ℕ)) (new : Bool) → new ≡ not (is_told x told) → (l : List ℕ × List ℕ)
    → (is_told l told || same_label l x) ≡ is_told l (if new then told ++ x ∷ [] else told)
told_with x told true e l = sym (list_any-append (same_label l) told (x ∷ []) ∙ ap (λ b. is_told l told || b) (or_nothing (same_label l x)))
told_with x told false e l = known_told l x told (same_label l x) refl (not_false (is_told x told) e)

pub knows_added : (t mid : Labels) (n : ℕ) (h b : List ℕ) (told : List (List ℕ × List ℕ)) (r : Result Bool AllocError)
    → ((l : List ℕ × List ℕ) → held_in mid.besides mid.heads.items l ≡ is_told l told)
    → length mid.besides ≡ length mid.heads.items → n < length mid.besides → get_or mid.besides n [] ≡ b → t.besides ≡ mid.besides
    → OnOk r (t.heads.items ≡ set mid.heads.items n (with_name h (get_or mid.heads.items n [])))
    → IfOk r (λ new. new ≡ not (is_told (h, b) told)) → IfOk r (λ new. Knows t (if new then told ++ (h, b) ∷ [] else told))
knows_added t mid n h b told (Ok new) same e lt at bs hss is = record {
  same = λ l.
      ap₂ (λ x y. held_in x y l) bs hss
      ∙ held_set mid.besides mid.heads.items n h l e lt
      ∙ ap₂ (λ x y. x || same_label l (h, y)) (same l) at
      ∙ told_with (h, b) told new is l;
}
knows_added t mid n h b told (Err e) same le lt at bs hss is = tt

pub new_by : (h : List ℕ) (hs : List (List ℕ)) (found : Bool) (r : Result Bool AllocError) → list_any (bytes_eq h) hs ≡ found
    → IfOk r (λ new. new ≡ not (list_any (bytes_eq h) hs)) → IfOk r (λ new. new ≡ not found)
new_by h hs found (Ok new) e is = is ∙ ap not e
new_by h hs found (Err x) e is = tt
