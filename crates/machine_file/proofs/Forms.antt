-- The forms of lines.
use Rattle.std.proofs.Common.{◌≡◌, ◌≢◌, ℕ, Bool, false, List, [], ◌∷◌, length, get_or, refl, sym, ap, ◌∙◌, arith, if◌then◌else◌}
use Rattle.std.proofs.lemmas.Bool.Decides.{nat_tests}
use Rattle.std.specs.Prelude.{◌==◌}
use Rattle.syntax.specs.lexer.Bytes.{hash, open_bracket, close_bracket}
use Rattle.machine_file.specs.Texts.{before_last_byte}
use Rattle.machine_file.specs.Lines.{Nothing, Pair, bracketed_form, form_of}

other_byte : (a c : ℕ) → a ≢ c → (a == c) ≡ false
other_byte a c n = grind (arith, nat_tests)

if_false : {A : Type 0} (b : Bool) (x y : A) → b ≡ false → (if b then x else y) ≡ y
if_false b x y e = rw e refl

pair_other : (text : List ℕ) → length text ≢ 0 → get_or text 0 0 ≢ hash → ((rest : List ℕ) → text ≢ open_bracket ∷ rest)
    → Pair text ≡ form_of text
pair_other [] n h o = absurd (n refl)
pair_other (b ∷ bs) n h o =
    sym (if_false (b == hash) Nothing _ (other_byte b hash h)
    ∙ if_false (b == open_bracket) (bracketed_form (b ∷ bs) (before_last_byte close_bracket bs)) (Pair (b ∷ bs))
    (other_byte b open_bracket (λ e. o bs (ap (λ x. x ∷ bs) e))))

pub pair_form : (text bytes : List ℕ) → bytes ≡ text → length bytes ≢ 0 → get_or bytes 0 0 ≢ hash
    → ((rest : List ℕ) → text ≢ open_bracket ∷ rest) → Pair text ≡ form_of text
pair_form text bytes e n h o = pair_other text (λ z. n (ap length e ∙ z)) (λ z. h (ap (λ l. get_or l 0 0) e ∙ z)) o
