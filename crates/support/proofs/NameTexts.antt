-- Names, cut at their last `/` and dot.
use Rattle.std.proofs.Common.{◌≡◌, ◌≢◌, ℕ, suc, ◌<◌, Bool, true, false, List, [], ◌∷◌, ◌++◌, length, get_or, refl, ap, ◌∙◌, arith, inl, inr}
use Rattle.std.proofs.Common.{eqb}
use Rattle.std.specs.Prelude.{◌||◌, if◌then◌else◌}
use Rattle.std.proofs.lemmas.Bool.{cases_Bool, eqb-true, or_parts}
use Rattle.support.specs.paths.Names.{has, plain_name, before_dot}

not_here : (b c : ℕ) → b ≢ c → eqb b c ≡ false
not_here b c other = elim (cases_Bool (eqb b c)) [
  | inl e ↦ absurd (other (eqb-true b c e))
  | inr e ↦ e
]

or_true : (b : Bool) → (b || true) ≡ true
or_true true = refl
or_true false = refl

pub none_has : (c : ℕ) (bs : List ℕ) → ((i : ℕ) → i < length bs → get_or bs i 0 ≢ c) → has c bs ≡ false
none_has c [] h = refl
none_has c (b ∷ bs) h = ap (λ x. x || has c bs) (not_here b c (h 0 (omega arith))) ∙ none_has c bs (λ i lt. h (suc i) (omega arith))

slash_has : (part rest : List ℕ) → has 47 (part ++ 47 ∷ rest) ≡ true
slash_has [] rest = refl
slash_has (b ∷ bs) rest = ap (λ x. eqb b 47 || x) (slash_has bs rest) ∙ or_true (eqb b 47)

dot_has : (part rest : List ℕ) → has 46 (part ++ 46 ∷ rest) ≡ true
dot_has [] rest = refl
dot_has (b ∷ bs) rest = ap (λ x. eqb b 46 || x) (dot_has bs rest) ∙ or_true (eqb b 46)

pub plain_name-none : (bs : List ℕ) → has 47 bs ≡ false → plain_name bs ≡ bs
plain_name-none [] h = refl
plain_name-none (b ∷ bs) h = ap (λ x. if x then plain_name bs else b ∷ bs) h

pub plain_name-behind : (part rest : List ℕ) → plain_name (part ++ 47 ∷ rest) ≡ plain_name rest
plain_name-behind [] rest = refl
plain_name-behind (b ∷ bs) rest = ap (λ x. if x then plain_name (bs ++ 47 ∷ rest) else b ∷ (bs ++ 47 ∷ rest)) (slash_has (b ∷ bs) rest) ∙ plain_name-behind bs rest

pub before_dot-none : (bs : List ℕ) → has 46 bs ≡ false → before_dot bs ≡ bs
before_dot-none [] h = refl
before_dot-none (b ∷ bs) h =
    let s = or_parts (eqb b 46) (has 46 bs) h in
    ap (λ x. if x then b ∷ before_dot bs else (if eqb b 46 then [] else b ∷ bs)) s.1 ∙ ap (λ x. if x then [] else b ∷ bs) s.0

pub before_dot-behind : (part rest : List ℕ) → before_dot (part ++ 46 ∷ rest) ≡ (if has 46 rest then part ++ 46 ∷ before_dot rest else part)
before_dot-behind [] rest = refl
before_dot-behind (b ∷ bs) rest =
    ap (λ x. if x then b ∷ before_dot (bs ++ 46 ∷ rest) else (if eqb b 46 then [] else b ∷ (bs ++ 46 ∷ rest))) (dot_has bs rest)
    ∙ ap (λ x. b ∷ x) (before_dot-behind bs rest)
    ∙ by (has 46 rest)
  where
    by : (x : Bool) → b ∷ (if x then bs ++ 46 ∷ before_dot rest else bs) ≡ (if x then (b ∷ bs) ++ 46 ∷ before_dot rest else b ∷ bs)
    by true = refl
    by false = refl
