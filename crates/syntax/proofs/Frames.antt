-- What stands between the quotes of a string.
use Rattle.std.proofs.Common.{◌≡◌, ℕ, ◌+◌, ◌-◌, ◌≤◌, ◌<◌, Bool, true, false, List, length, get_or, sym, ap, subst, ◌∙◌, arith, lit<, nat_le}
use Rattle.std.proofs.Common.{eq-eqb}
use Rattle.std.specs.Prelude.{◌==◌, ◌&&◌, slice_range}
use Rattle.std.specs.Str.{IsUtf8, IsCharBoundary}
use Rattle.std.proofs.lemmas.Bool.{eqb-true, and_from, and_parts, cond-true, cond-false}
use Rattle.std.proofs.lemmas.Bool.Decides.{nat_tests}
use Rattle.std.proofs.lemmas.Str.{IsCharBoundary-after_ascii}
use Rattle.syntax.specs.lexer.Bytes.{quote}
use Rattle.syntax.specs.lexer.Texts.{is_framed, text_between_quotes}

le_true : (a b : ℕ) → a ≤ b → nat_le a b ≡ true
le_true a b h = grind (arith, nat_tests)

le_false : (a b : ℕ) → b < a → nat_le a b ≡ false
le_false a b h = grind (arith, nat_tests)

true_le : (a b : ℕ) → nat_le a b ≡ true → a ≤ b
true_le a b h = grind (arith, nat_tests)

-- ---- the test

pub framed_short : (front back : ℕ) (text : List ℕ) → length text < front + back → is_framed front back text ≡ false
framed_short front back text lt = ap (λ (t : Bool). t && ((get_or text (front - 1) 0 == quote) && (get_or text (length text - back) 0 == quote))) (le_false (front + back) (length text) lt)

pub framed_enough : (front back : ℕ) (text : List ℕ) → front + back ≤ length text → is_framed front back text ≡ ((get_or text (front - 1) 0 == quote) && (get_or text (length text - back) 0 == quote))
framed_enough front back text le = ap (λ (t : Bool). t && ((get_or text (front - 1) 0 == quote) && (get_or text (length text - back) 0 == quote))) (le_true (front + back) (length text) le)

pub framed_is : (front back : ℕ) (text : List ℕ) → front + back ≤ length text → get_or text (front - 1) 0 ≡ quote → get_or text (length text - back) 0 ≡ quote → is_framed front back text ≡ true
framed_is front back text le before behind =
    framed_enough front back text le
    ∙ and_from _ _ (eq-eqb (get_or text (front - 1) 0) quote before) (eq-eqb (get_or text (length text - back) 0) quote behind)

-- ---- what it says

record Framed (front back : ℕ) (text : List ℕ) : Type 0 where
  pub within : front + back ≤ length text
  pub before : get_or text (front - 1) 0 ≡ quote

framed : (front back : ℕ) (text : List ℕ) → is_framed front back text ≡ true → Framed front back text
framed front back text h =
    let quotes = (and_parts (nat_le (front + back) (length text)) _ h).1 in
    record {
      within = true_le (front + back) (length text) (and_parts (nat_le (front + back) (length text)) _ h).0;
      before = eqb-true (get_or text (front - 1) 0) quote (and_parts _ (get_or text (length text - back) 0 == quote) quotes).0;
    }

pub framed_start : (front back : ℕ) (text : List ℕ) → IsUtf8 text → 0 < front → 0 < back → is_framed front back text ≡ true → IsCharBoundary text front
framed_start front back text utf8 some more h =
    let w = framed front back text h in
    subst (IsCharBoundary text) (let q : (front - 1) + 1 ≡ front = omega arith in q)
    (IsCharBoundary-after_ascii text (front - 1) utf8 (omega (arith, w.within)) (subst (λ (x : ℕ). x < 128) (sym w.before) (lit< tt)))

pub between_framed : (front back : ℕ) (text : List ℕ) → is_framed front back text ≡ true → text_between_quotes front back text ≡ slice_range text front (length text - back)
unfolding text_between_quotes
between_framed front back text h = cond-true (is_framed front back text) _ _ h

pub between_all : (front back : ℕ) (text : List ℕ) → is_framed front back text ≡ false → text_between_quotes front back text ≡ text
unfolding text_between_quotes
between_all front back text h = cond-false (is_framed front back text) _ _ h

pub ruleset framed_cases = (framed_short, framed_enough)
