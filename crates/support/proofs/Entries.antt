-- The entries of a map.
use Rattle.std.proofs.Common.{◌≡◌, ◌∙◌, ℕ, zero, suc, ◌<◌, ◌+◌, Bool, true, false, List, [], ◌∷◌, length, map, cond, Option, Some, None}
use Rattle.std.proofs.Common.{ap, arith, refl, not}
use Rattle.std.specs.Prelude.{position, nat_lt}
use Rattle.std.specs.List.{position_or_len}
use Rattle.std.specs.Map.{lookup, set_value}
use Rattle.support.specs.Maps.{set_value_at}

module _ {K V : Type 0} where
  -- behind the last there is nothing to set
  pub none_to_set : (es : List (K × V)) (i : ℕ) (w : V) → (i < length es → ⊥) → es ≡ set_value_at es i w
  none_to_set [] i w out = refl
  none_to_set (e ∷ es) zero w out = absurd (out (omega arith))
  none_to_set (e ∷ es) (suc i) w out = ap (λ l. e ∷ l) (none_to_set es i w (λ lt. out (omega (arith, lt))))

  module _ (test : K → Bool) where
    count_keys : (es : List (K × V)) → length (map (λ e. e.0) es) ≡ length es
    count_keys [] = refl
    count_keys (e ∷ es) = ap suc (count_keys es)

    first_entry : (es : List (K × V)) → position_or_len test (map (λ e. e.0) es) ≡ position_or_len (λ e. test e.0) es
    first_entry [] = refl
    first_entry (e ∷ es) = ap (λ n. cond (not (test e.0)) (1 + n) 0) (first_entry es)

    -- the first key that passes stands where its entry does
    pub position_entry : (es : List (K × V)) → position test (map (λ e. e.0) es) ≡ position (λ e. test e.0) es
    position_entry es =
        ap (λ n. cond (nat_lt n (length (map (λ e. e.0) es))) (Some n) None) (first_entry es)
        ∙ ap (λ m. cond (nat_lt (position_or_len (λ e. test e.0) es) m)
        (Some (position_or_len (λ e. test e.0) es)) None) (count_keys es)

    unset_step : (b : Bool) (e : K × V) (es more : List (K × V)) (w : V) (o : Option V) → cond b (Some e.1) o ≡ None
        → (o ≡ None → es ≡ more) → e ∷ es ≡ cond b ((e.0, w) ∷ es) (e ∷ more)
    unset_step true e es more w o none later = absurd cc
    unset_step false e es more w o none later = ap (λ l. e ∷ l) (later none)

    -- where no key passes, nothing is set
    pub unset : (es : List (K × V)) (w : V) → lookup test es ≡ None → es ≡ set_value test es w
    unset [] w none = refl
    unset (e ∷ es) w none = unset_step (test e.0) e es _ w _ none (unset es w)
