-- Quotes at the ends of a text.
use Rattle.std.proofs.Common.{◌≡◌, ◌≢◌, ℕ, Bool, true, false, ◌==◌, List, [], ◌∷◌, ◌++◌, Option, Some, None, IfSome, option_map, unwrap_or}
use Rattle.std.proofs.Common.{refl, sym, ap, ◌∙◌}
use Rattle.std.specs.Prelude.{if◌then◌else◌}
use Rattle.std.proofs.lemmas.Bool.{eqb-true}
use Rattle.configuration_calls.specs.Contents.{before_quote, unquoted_text}

before_quote-append : (u : List ℕ) → before_quote (u ++ 34 ∷ []) ≡ Some u
before_quote-append [] = refl
before_quote-append (b ∷ []) = refl
before_quote-append (b ∷ c ∷ u) = ap (option_map (λ v. b ∷ v)) (before_quote-append (c ∷ u))

one_byte : (b : ℕ) (is : Bool) → (b == 34) ≡ is → IfSome (if is then Some [] else None) (λ u. b ∷ [] ≡ u ++ 34 ∷ [])
one_byte b true e = ap (λ x. x ∷ []) (eqb-true b 34 e)
one_byte b false e = tt

more_bytes : (b : ℕ) (t : List ℕ) (o : Option (List ℕ)) → IfSome o (λ u. t ≡ u ++ 34 ∷ []) → IfSome (option_map (λ v. b ∷ v) o) (λ u. b ∷ t ≡ u ++ 34 ∷ [])
more_bytes b t None h = tt
more_bytes b t (Some u) h = ap (λ l. b ∷ l) h

before_quote-is : (t : List ℕ) → IfSome (before_quote t) (λ u. t ≡ u ++ 34 ∷ [])
before_quote-is [] = tt
before_quote-is (b ∷ []) = one_byte b (b == 34) refl
before_quote-is (b ∷ c ∷ t) = more_bytes b (c ∷ t) (before_quote (c ∷ t)) (before_quote-is (c ∷ t))

none_of : (t : List ℕ) (o : Option (List ℕ)) → IfSome o (λ u. t ≡ u ++ 34 ∷ []) → ((front : List ℕ) → t ≢ front ++ 34 ∷ []) → o ≡ None
none_of t None h none = refl
none_of t (Some u) h none = absurd (none u h)

-- a quote stands first, and none last
pub no_last : (text rest : List ℕ) → text ≡ 34 ∷ rest → ((front : List ℕ) → rest ≢ front ++ 34 ∷ []) → text ≡ unquoted_text text
no_last text rest is none = is ∙ sym (ap unquoted_text is ∙ ap (λ o. unwrap_or o (34 ∷ rest)) (none_of rest (before_quote rest) (before_quote-is rest) none))

-- quotes stand at both ends
pub both_ends : (text rest inside : List ℕ) → text ≡ 34 ∷ rest → rest ≡ inside ++ 34 ∷ [] → inside ≡ unquoted_text text
both_ends text rest inside is ends = sym (ap unquoted_text is ∙ ap (λ o. unwrap_or o (34 ∷ rest)) (ap before_quote ends ∙ before_quote-append inside))
