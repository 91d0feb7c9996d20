-- Ways up, and paths as names.
use Rattle.std.proofs.Common.{◌≡◌, ◌≢◌, ℕ, Result, Ok, Err, IfOk, is_ok, zero, suc, ◌+◌, ◌<◌, [], ◌∷◌, ◌++◌, length, get_or, codes, refl}
use Rattle.std.proofs.Common.{sym, ap, ◌∙◌, append_assoc, add-one, arith, inl, inr, eqb}
use Rattle.std.specs.Prelude.{if◌then◌else◌}
use Rattle.std.proofs.lemmas.Bool.{cases_Bool, eqb-true}
use Rattle.std.proofs.lemmas.List.{map-append}
use Rattle.std.proofs.lemmas.Result.{IfOk-from_err}
use Rattle.build.specs.edge.Texts.{Path}
use Rattle.build.specs.edge.Paths.{way_up, flat_name}

-- one folder more, at the other end
way_up-suc : (n : ℕ) → way_up n ++ codes "../" ≡ way_up (suc n)
way_up-suc zero = refl
way_up-suc (suc n) = ap (λ p. codes "../" ++ p) (way_up-suc n)

pub way_up-more : (front now path : Path) (n : ℕ) → now ≡ front ++ way_up n → path ≡ now ++ codes "../" → path ≡ front ++ way_up (n + 1)
way_up-more front now path n e f =
    f ∙ ap (λ p. p ++ codes "../") e ∙ append_assoc front (way_up n) (codes "../") ∙ ap (λ p. front ++ p) (way_up-suc n ∙ ap way_up (sym (add-one n)))

flat_byte : (b : ℕ) → b ≢ 47 → (if eqb b 47 then 95 else b) ≡ b
flat_byte b other = elim (cases_Bool (eqb b 47)) [
  | inl e ↦ absurd (other (eqb-true b 47 e))
  | inr e ↦ rw e refl
]

-- a name without `/` stays as it is
pub flat_name-plain : (bs : Path) → ((i : ℕ) → i < length bs → get_or bs i 0 ≢ 47) → flat_name bs ≡ bs
flat_name-plain [] h = refl
flat_name-plain (b ∷ bs) h =
    ap (λ c. c ∷ flat_name bs) (flat_byte b (h 0 (omega arith)))
    ∙ ap (λ cs. b ∷ cs) (flat_name-plain bs (λ i lt. h (suc i) (omega arith)))

-- up to the first `/`, and behind it
pub flat_name-parts : (bs part behind : Path) → bs ≡ part ++ 47 ∷ behind → ((i : ℕ) → i < length part → get_or part i 0 ≢ 47) → flat_name bs ≡ part ++ 95 ∷ flat_name behind
flat_name-parts bs part behind e h =
    ap flat_name e ∙ map-append (λ b. if eqb b 47 then 95 else b) part (47 ∷ behind) ∙ ap (λ p. p ++ 95 ∷ flat_name behind) (flat_name-plain part h)

-- the name of all, where a part was put and `_`
pub name-more : (name first next bs part behind whole : Path) → name ++ flat_name bs ≡ whole → first ≡ name ++ part → next ≡ first ++ 95 ∷ [] → bs ≡ part ++ 47 ∷ behind
    → ((i : ℕ) → i < length part → get_or part i 0 ≢ 47) → next ++ flat_name behind ≡ whole
name-more name first next bs part behind whole e f g h plain =
    ap (λ p. p ++ flat_name behind) (g ∙ ap (λ p. p ++ 95 ∷ []) f)
    ∙ append_assoc (name ++ part) (95 ∷ []) (flat_name behind)
    ∙ append_assoc name part (95 ∷ flat_name behind)
    ∙ ap (λ p. name ++ p) (sym (flat_name-parts bs part behind h plain))
    ∙ e

-- at the last call, whose answer is handed on
pub put_last : {T E : Type 0} (r : Result T E) (new now text all : Path) → new ≡ (if is_ok r then now ++ text else now) → now ++ text ≡ all → IfOk r (λ _. new ≡ all)
put_last (Ok x) new now text all e f = e ∙ f
put_last {T = T} {E = E} (Err x) new now text all e f = IfOk-from_err {T = T} {E = E} (Err x) (λ _. new ≡ all) refl
