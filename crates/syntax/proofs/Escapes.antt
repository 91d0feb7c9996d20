-- Escapes: what the functions that read them answer, case by case, and that none reaches beyond a quote.
use Rattle.std.proofs.Common.{◌≡◌, ℕ, zero, suc, ◌+◌, ◌-◌, ◌*◌, ◌^◌, ◌≤◌, ◌<◌, true, false, List, [], ◌∷◌, ◌++◌, length, take, drop, get_or}
use Rattle.std.proofs.Common.{refl, sym, ap, ◌∙◌, inl, inr, arith, Option, Some, None}
use Rattle.std.specs.Prelude.{if◌then◌else◌}
use Rattle.std.specs.Char.{digit_value, is_digit}
use Rattle.std.proofs.Math.Nat.{pow-suc}
use Rattle.std.proofs.lemmas.Bool.Decides.{nat_tests}
use Rattle.std.proofs.lemmas.List.{at_drop_more, drop_all}
use Rattle.std.proofs.lemmas.Bool.{cases_Bool, cond-true, cond-false}
use Rattle.syntax.specs.lexer.Bytes.{quote}
use Rattle.syntax.specs.lexer.Numbers.{is_octal_digit}
use Rattle.syntax.specs.lexer.Escapes.{control, digit_count, hexadecimal, octal, escape_of_size, named_escape, escape_at, names_none, is_bad_escape}
use Rattle.syntax.proofs.Runs.{take_all}

-- ---- none reaches beyond a quote

hex_before : (n value : ℕ) (text rest : List ℕ) → hexadecimal n value (text ++ quote ∷ rest) ≡ hexadecimal n value text
hex_before zero value text rest = refl
hex_before (suc n) value [] rest = refl
hex_before (suc n) value (b ∷ text) rest = ap (λ (o : Option ℕ). if is_digit b 16 then o else None) (hex_before n (16 * value + digit_value b) text rest)

octal_before : (n value size : ℕ) (text rest : List ℕ) → octal n value size (text ++ quote ∷ rest) ≡ octal n value size text
octal_before zero value size text rest = refl
octal_before (suc n) value size [] rest = refl
octal_before (suc n) value size (b ∷ text) rest = ap (λ (o : ℕ × ℕ). if is_octal_digit b then o else (value, size)) (octal_before n (8 * value + digit_value b) (size + 1) text rest)

named_before : (b : ℕ) (o : Option ℕ) (text rest : List ℕ) → named_escape b o (text ++ quote ∷ rest) ≡ named_escape b o text
named_before b None text rest = refl
named_before b (Some n) text rest = ap (escape_of_size (n + 1)) (hex_before n 0 text rest)

escape_before : (b : ℕ) (text rest : List ℕ) → escape_at (b ∷ (text ++ quote ∷ rest)) ≡ escape_at (b ∷ text)
unfolding escape_at
escape_before b text rest =
    let choice : ℕ × ℕ → Option (ℕ × ℕ) → Option (ℕ × ℕ) = λ o e. if is_octal_digit b then Some o else e in
    ap (λ (o : ℕ × ℕ). choice o (named_escape b (digit_count b) (text ++ quote ∷ rest))) (octal_before 3 0 0 (b ∷ text) rest) ∙ ap (choice (octal 3 0 0 (b ∷ text))) (named_before b (digit_count b) text rest)

pub bad_before : (b : ℕ) (text rest : List ℕ) → is_bad_escape (b ∷ (text ++ quote ∷ rest)) ≡ is_bad_escape (b ∷ text)
bad_before b text rest = ap names_none (escape_before b text rest)

-- ---- hexadecimal digits

pub hex_short : (n value : ℕ) (s : List ℕ) → length s < n → hexadecimal n value s ≡ None
hex_short zero value s lt = absurd (omega arith)
hex_short (suc n) value [] lt = refl
hex_short (suc n) value (b ∷ s) lt = elim (cases_Bool (is_digit b 16)) [
  | inl y ↦ cond-true (is_digit b 16) _ _ y ∙ hex_short n (16 * value + digit_value b) s (omega arith)
  | inr x ↦ cond-false (is_digit b 16) _ _ x
]

hex_first : (n value b : ℕ) (s : List ℕ) → 0 < n → digit_value b < 16 → hexadecimal n value (b ∷ s) ≡ hexadecimal (n - 1) (16 * value + digit_value b) s
hex_first zero value b s lt d = absurd (omega arith)
hex_first (suc n) value b s lt d =
    cond-true (is_digit b 16) _ _ (digit_true b d) ∙ ap (λ (m : ℕ). hexadecimal m (16 * value + digit_value b) s) (let q : n ≡ suc n - 1 = omega arith in q)
  where
    digit_true : (b : ℕ) → digit_value b < 16 → is_digit b 16 ≡ true
    digit_true b d = grind (arith, nat_tests)

hex_none : (n value b : ℕ) (s : List ℕ) → 0 < n → 16 ≤ digit_value b → hexadecimal n value (b ∷ s) ≡ None
hex_none zero value b s lt d = absurd (omega arith)
hex_none (suc n) value b s lt d = cond-false (is_digit b 16) _ _ (digit_false b d)
  where
    digit_false : (b : ℕ) → 16 ≤ digit_value b → is_digit b 16 ≡ false
    digit_false b d = grind (arith, nat_tests)

pub hex_yes : (s : List ℕ) (n value i : ℕ) → i < n → i < length s → digit_value (get_or s i 0) < 16
    → hexadecimal (n - i) value (drop i s) ≡ hexadecimal (n - (i + 1)) (16 * value + digit_value (get_or s i 0)) (drop (i + 1) s)
hex_yes s n value i more lt d =
    at_drop_more (hexadecimal (n - i) value) s i 0 lt ∙ hex_first (n - i) value (get_or s i 0) (drop (i + 1) s) (omega arith) d
    ∙ ap (λ (m : ℕ). hexadecimal m (16 * value + digit_value (get_or s i 0)) (drop (i + 1) s)) (let q : n - i - 1 ≡ n - (i + 1) = omega arith in q)

pub hex_no : (s : List ℕ) (n value i : ℕ) → i < n → i < length s → 16 ≤ digit_value (get_or s i 0) → hexadecimal (n - i) value (drop i s) ≡ None
hex_no s n value i more lt d = at_drop_more (hexadecimal (n - i) value) s i 0 lt ∙ hex_none (n - i) value (get_or s i 0) (drop (i + 1) s) (omega arith) d

pub hex_end : (s : List ℕ) (n value i : ℕ) → n ≤ i → hexadecimal (n - i) value (drop i s) ≡ Some value
hex_end s n value i le = ap (λ (m : ℕ). hexadecimal m value (drop i s)) (let q : n - i ≡ 0 = omega arith in q)

pub hex_grows : (value d i : ℕ) → value < 16 ^ i → d < 16 → 16 * value + d < 16 ^ (i + 1)
hex_grows value d i v e = omega (arith, pow-suc 16 i, ap (λ (m : ℕ). 16 ^ m) (let q : i + 1 ≡ suc i = omega arith in q))

-- seven digits leave room for one more in 32 bits
pub hex_fits : (value i : ℕ) → value < 16 ^ i → i < 8 → 16 * value + 15 < 2 ^ 32
hex_fits value zero v lt = omega arith
hex_fits value (suc zero) v lt = omega arith
hex_fits value (suc (suc zero)) v lt = omega arith
hex_fits value (suc (suc (suc zero))) v lt = omega arith
hex_fits value (suc (suc (suc (suc zero)))) v lt = omega arith
hex_fits value (suc (suc (suc (suc (suc zero))))) v lt = omega arith
hex_fits value (suc (suc (suc (suc (suc (suc zero)))))) v lt = omega arith
hex_fits value (suc (suc (suc (suc (suc (suc (suc zero))))))) v lt = omega arith
hex_fits value (suc (suc (suc (suc (suc (suc (suc (suc i)))))))) v lt = absurd (omega arith)

-- ---- octal digits

octal_first : (n value size b : ℕ) (s : List ℕ) → 0 < n → is_octal_digit b ≡ true → octal n value size (b ∷ s) ≡ octal (n - 1) (8 * value + digit_value b) (size + 1) s
octal_first zero value size b s lt d = absurd (omega arith)
octal_first (suc n) value size b s lt d =
    cond-true (is_octal_digit b) _ _ d ∙ ap (λ (m : ℕ). octal m (8 * value + digit_value b) (size + 1) s) (let q : n ≡ suc n - 1 = omega arith in q)

octal_value : (b : ℕ) → is_octal_digit b ≡ true → (digit_value b ≡ b - 48) × (48 ≤ b) × (b ≤ 55)
octal_value b h = (grind (arith, nat_tests), grind (arith, nat_tests), grind (arith, nat_tests))

pub octal_range : (b : ℕ) → is_octal_digit b ≡ true → (48 ≤ b) × (b ≤ 55)
octal_range b h = let w = octal_value b h in (w.1, w.2)

pub octal_yes : (s : List ℕ) (value i : ℕ) → i < 3 → i < length s → is_octal_digit (get_or s i 0) ≡ true
    → octal (3 - i) value i (drop i s) ≡ octal (3 - (i + 1)) (8 * value + (get_or s i 0 - 48)) (i + 1) (drop (i + 1) s)
octal_yes s value i more lt d =
    at_drop_more (octal (3 - i) value i) s i 0 lt ∙ octal_first (3 - i) value i (get_or s i 0) (drop (i + 1) s) (omega arith) d
    ∙ ap (λ (v : ℕ). octal (3 - i - 1) (8 * value + v) (i + 1) (drop (i + 1) s)) (octal_value (get_or s i 0) d).0
    ∙ ap (λ (m : ℕ). octal m (8 * value + (get_or s i 0 - 48)) (i + 1) (drop (i + 1) s)) (let q : 3 - i - 1 ≡ 3 - (i + 1) = omega arith in q)

octal_stops : (n value size b : ℕ) (s : List ℕ) → is_octal_digit b ≡ false → octal n value size (b ∷ s) ≡ (value, size)
octal_stops zero value size b s d = refl
octal_stops (suc n) value size b s d = cond-false (is_octal_digit b) _ _ d

pub octal_no : (s : List ℕ) (value i : ℕ) → i < length s → is_octal_digit (get_or s i 0) ≡ false → octal (3 - i) value i (drop i s) ≡ (value, i)
octal_no s value i lt d = at_drop_more (octal (3 - i) value i) s i 0 lt ∙ octal_stops (3 - i) value i (get_or s i 0) (drop (i + 1) s) d

octal_nothing : (n value size : ℕ) → octal n value size [] ≡ (value, size)
octal_nothing zero value size = refl
octal_nothing (suc n) value size = refl

pub octal_end : (s : List ℕ) (value i : ℕ) → length s ≤ i → octal (3 - i) value i (drop i s) ≡ (value, i)
octal_end s value i le = ap (octal (3 - i) value i) (drop_all i s le) ∙ octal_nothing (3 - i) value i

pub octal_full : (s : List ℕ) (value i : ℕ) → 3 ≤ i → octal (3 - i) value i (drop i s) ≡ (value, i)
octal_full s value i le = ap (λ (m : ℕ). octal m value i (drop i s)) (let q : 3 - i ≡ 0 = omega arith in q)

-- ---- escapes

tail_is : (b : ℕ) (s : List ℕ) → take (length (b ∷ s) - 1) (drop 1 (b ∷ s)) ≡ s
tail_is b s = ap (λ (n : ℕ). take n s) (let q : length (b ∷ s) - 1 ≡ length s = omega arith in q) ∙ take_all s

pub escape_nothing : (s : List ℕ) → length s ≡ 0 → escape_at s ≡ None
unfolding escape_at
escape_nothing [] e = refl
escape_nothing (b ∷ s) e = absurd (omega arith)

pub escape_octal : (s : List ℕ) → 0 < length s → is_octal_digit (get_or s 0 0) ≡ true → escape_at s ≡ Some (octal 3 0 0 s)
unfolding escape_at
escape_octal [] lt d = absurd (omega arith)
escape_octal (b ∷ s) lt d = cond-true (is_octal_digit b) _ _ d

escape_named : (b : ℕ) (s : List ℕ) (o : Option ℕ) → is_octal_digit b ≡ false → digit_count b ≡ o → escape_at (b ∷ s) ≡ named_escape b o s
unfolding escape_at
escape_named b s o d e = cond-false (is_octal_digit b) _ _ d ∙ ap (λ (x : Option ℕ). named_escape b x s) e

pub escape_digits : (s : List ℕ) (n code : ℕ) → 0 < length s → is_octal_digit (get_or s 0 0) ≡ false → digit_count (get_or s 0 0) ≡ Some n
    → hexadecimal n 0 (take (length s - 1) (drop 1 s)) ≡ Some code → escape_at s ≡ Some (code, n + 1)
escape_digits [] n code lt d e h = absurd (omega arith)
escape_digits (b ∷ s) n code lt d e h = escape_named b s (Some n) d e ∙ ap (escape_of_size (n + 1)) (ap (hexadecimal n 0) (sym (tail_is b s)) ∙ h)

pub escape_short : (s : List ℕ) (n : ℕ) → 0 < length s → is_octal_digit (get_or s 0 0) ≡ false → digit_count (get_or s 0 0) ≡ Some n
    → hexadecimal n 0 (take (length s - 1) (drop 1 s)) ≡ None → escape_at s ≡ None
escape_short [] n lt d e h = absurd (omega arith)
escape_short (b ∷ s) n lt d e h = escape_named b s (Some n) d e ∙ ap (escape_of_size (n + 1)) (ap (hexadecimal n 0) (sym (tail_is b s)) ∙ h)

pub escape_control : (s : List ℕ) (code : ℕ) → 0 < length s → is_octal_digit (get_or s 0 0) ≡ false → digit_count (get_or s 0 0) ≡ None → control (get_or s 0 0) ≡ Some code → escape_at s ≡ Some (code, 1)
escape_control [] code lt d e h = absurd (omega arith)
escape_control (b ∷ s) code lt d e h = escape_named b s None d e ∙ ap (escape_of_size 1) h

pub escape_other : (s : List ℕ) → 0 < length s → is_octal_digit (get_or s 0 0) ≡ false → digit_count (get_or s 0 0) ≡ None → control (get_or s 0 0) ≡ None → escape_at s ≡ None
escape_other [] lt d e h = absurd (omega arith)
escape_other (b ∷ s) lt d e h = escape_named b s None d e ∙ ap (escape_of_size 1) h

pub ruleset hex_steps = (hex_short, hex_yes, hex_no, hex_end)

pub ruleset octal_steps = (octal_yes, octal_no, octal_end, octal_full)

pub ruleset escape_cases = (escape_nothing, escape_octal, escape_digits, escape_short, escape_control, escape_other)
