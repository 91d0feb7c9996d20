-- The runs of a version, read from its front.
use Rattle.std.proofs.Common.{◌≡◌, ℕ, suc, ◌+◌, ◌<◌, Bool, true, false, cond, List, [], ◌∷◌, length, get_or, take, drop, Option, Some, None}
use Rattle.std.proofs.Common.{refl, sym, ap, ◌∙◌, arith}
use Rattle.std.specs.Prelude.{◌||◌, if◌then◌else◌}
use Rattle.std.specs.List.{prefix_len, AllPass}
use Rattle.std.proofs.lemmas.List.{get_or-take, length-take}
use Rattle.std.proofs.lemmas.List.Sums.{prefix_len_passes}
use Rattle.std.specs.Char.{is_ascii_digit, is_ascii_alphabetic}
use Rattle.versions.specs.Version.{Run, number, word, with_digit, with_letter, parts, present, runs}

one_more : {X : Type 0} (b : Bool) (n : ℕ) (x : X) (xs : List X) → cond b (1 + n) 0 ≡ cond b (suc n) 0
one_more true n x xs = omega arith
one_more false n x xs = refl

digit_before_letter : (b c : ℕ) (ps : List (Option Run)) → with_digit b (with_letter c ps) ≡ Some (number (b ∷ [])) ∷ with_letter c ps
digit_before_letter b c [] = refl
digit_before_letter b c (None ∷ ps) = refl
digit_before_letter b c (Some (number ds) ∷ ps) = refl
digit_before_letter b c (Some (word ds) ∷ ps) = refl

letter_before_digit : (b c : ℕ) (ps : List (Option Run)) → with_letter b (with_digit c ps) ≡ Some (word (b ∷ [])) ∷ with_digit c ps
letter_before_digit b c [] = refl
letter_before_digit b c (None ∷ ps) = refl
letter_before_digit b c (Some (number ds) ∷ ps) = refl
letter_before_digit b c (Some (word ds) ∷ ps) = refl

number_step : (d a : Bool) (b c m : ℕ) (cs : List ℕ)
    → parts (c ∷ cs) ≡ (if d then with_digit c (parts cs) else if a then with_letter c (parts cs) else None ∷ parts cs)
    → with_digit c (parts cs) ≡ Some (number (c ∷ take m cs)) ∷ parts (drop m cs)
    → with_digit b (parts (c ∷ cs)) ≡ Some (number (b ∷ take (cond d (1 + m) 0) (c ∷ cs))) ∷ parts (drop (cond d (1 + m) 0) (c ∷ cs))
number_step true a b c m cs e later =
    let s : suc m ≡ 1 + m = omega arith in
    ap (with_digit b) (e ∙ later) ∙ ap (λ i. Some (number (b ∷ take i (c ∷ cs))) ∷ parts (drop i (c ∷ cs))) s
number_step false true b c m cs e later = ap (with_digit b) e ∙ digit_before_letter b c (parts cs) ∙ ap (λ ps. Some (number (b ∷ [])) ∷ ps) (sym e)
number_step false false b c m cs e later = ap (with_digit b) e ∙ ap (λ ps. Some (number (b ∷ [])) ∷ ps) (sym e)

-- a digit joins the digits that follow it
pub number_front : (b : ℕ) (bs : List ℕ) → with_digit b (parts bs) ≡ Some (number (b ∷ take (prefix_len is_ascii_digit bs) bs)) ∷ parts (drop (prefix_len is_ascii_digit bs) bs)
number_front b [] = refl
number_front b (c ∷ cs) = number_step (is_ascii_digit c) (is_ascii_alphabetic c) b c (prefix_len is_ascii_digit cs) cs refl (number_front c cs)

word_step : (d a : Bool) (b c m : ℕ) (cs : List ℕ) → (a ≡ true → d ≡ false)
    → parts (c ∷ cs) ≡ (if d then with_digit c (parts cs) else if a then with_letter c (parts cs) else None ∷ parts cs)
    → with_letter c (parts cs) ≡ Some (word (c ∷ take m cs)) ∷ parts (drop m cs)
    → with_letter b (parts (c ∷ cs)) ≡ Some (word (b ∷ take (cond a (1 + m) 0) (c ∷ cs))) ∷ parts (drop (cond a (1 + m) 0) (c ∷ cs))
word_step true true b c m cs apart e later = let h = apart refl in absurd cc
word_step true false b c m cs apart e later = ap (with_letter b) e ∙ letter_before_digit b c (parts cs) ∙ ap (λ ps. Some (word (b ∷ [])) ∷ ps) (sym e)
word_step false true b c m cs apart e later =
    let s : suc m ≡ 1 + m = omega arith in
    ap (with_letter b) (e ∙ later) ∙ ap (λ i. Some (word (b ∷ take i (c ∷ cs))) ∷ parts (drop i (c ∷ cs))) s
word_step false false b c m cs apart e later = ap (with_letter b) e ∙ ap (λ ps. Some (word (b ∷ [])) ∷ ps) (sym e)

-- no letter is a digit
pub letters_apart : (c : ℕ) → is_ascii_alphabetic c ≡ true → is_ascii_digit c ≡ false
letters_apart c h = grind arith

-- a letter joins the letters that follow it
pub word_front : (b : ℕ) (bs : List ℕ) → with_letter b (parts bs) ≡ Some (word (b ∷ take (prefix_len is_ascii_alphabetic bs) bs)) ∷ parts (drop (prefix_len is_ascii_alphabetic bs) bs)
word_front b [] = refl
word_front b (c ∷ cs) = word_step (is_ascii_digit c) (is_ascii_alphabetic c) b c (prefix_len is_ascii_alphabetic cs) cs (letters_apart c) refl (word_front c cs)

number_at : (d a : Bool) (c m : ℕ) (cs : List ℕ)
    → parts (c ∷ cs) ≡ (if d then with_digit c (parts cs) else if a then with_letter c (parts cs) else None ∷ parts cs)
    → with_digit c (parts cs) ≡ Some (number (c ∷ take m cs)) ∷ parts (drop m cs)
    → 0 < cond d (1 + m) 0 → parts (c ∷ cs) ≡ Some (number (take (cond d (1 + m) 0) (c ∷ cs))) ∷ parts (drop (cond d (1 + m) 0) (c ∷ cs))
number_at true a c m cs e later h = let s : suc m ≡ 1 + m = omega arith in e ∙ later ∙ ap (λ i. Some (number (take i (c ∷ cs))) ∷ parts (drop i (c ∷ cs))) s
number_at false a c m cs e later h = absurd (omega arith)

-- a version that begins with digits
pub number_run : (bs : List ℕ) → 0 < prefix_len is_ascii_digit bs → runs bs ≡ number (take (prefix_len is_ascii_digit bs) bs) ∷ runs (drop (prefix_len is_ascii_digit bs) bs)
number_run [] h = absurd (omega arith)
number_run (c ∷ cs) h = ap present (number_at (is_ascii_digit c) (is_ascii_alphabetic c) c (prefix_len is_ascii_digit cs) cs refl (number_front c cs) h)

word_at : (d a : Bool) (c m : ℕ) (cs : List ℕ) → (a ≡ true → d ≡ false)
    → parts (c ∷ cs) ≡ (if d then with_digit c (parts cs) else if a then with_letter c (parts cs) else None ∷ parts cs)
    → with_letter c (parts cs) ≡ Some (word (c ∷ take m cs)) ∷ parts (drop m cs)
    → 0 < cond a (1 + m) 0 → parts (c ∷ cs) ≡ Some (word (take (cond a (1 + m) 0) (c ∷ cs))) ∷ parts (drop (cond a (1 + m) 0) (c ∷ cs))
word_at true true c m cs apart e later h = let k = apart refl in absurd cc
word_at false true c m cs apart e later h = let s : suc m ≡ 1 + m = omega arith in e ∙ later ∙ ap (λ i. Some (word (take i (c ∷ cs))) ∷ parts (drop i (c ∷ cs))) s
word_at d false c m cs apart e later h = absurd (omega arith)

-- a version that begins with letters
pub word_run : (bs : List ℕ) → 0 < prefix_len is_ascii_alphabetic bs → runs bs ≡ word (take (prefix_len is_ascii_alphabetic bs) bs) ∷ runs (drop (prefix_len is_ascii_alphabetic bs) bs)
word_run [] h = absurd (omega arith)
word_run (c ∷ cs) h = ap present (word_at (is_ascii_digit c) (is_ascii_alphabetic c) c (prefix_len is_ascii_alphabetic cs) cs (letters_apart c) refl (word_front c cs) h)

begins_at : (d u l : Bool) (m n : ℕ) → ((d || u) || l) ≡ true → cond d (1 + m) 0 ≡ 0 → cond (u || l) (1 + n) 0 ≡ 0 → ⊥
begins_at true u l m n h x y = omega arith
begins_at false true l m n h x y = omega arith
begins_at false false true m n h x y = omega arith
begins_at false false false m n h x y = absurd cc

-- each element of the longest front that passes does
pub front_passes : (p : ℕ → Bool) (xs ys : List ℕ) (n : ℕ) → n ≡ prefix_len p xs → ys ≡ take n xs → AllPass p ys
front_passes p xs ys n e is = λ k d h.
    let short : k < n = omega (arith, length-take n xs, ap length is) in
    ap (λ l. p (get_or l k d)) is ∙ ap p (get_or-take n xs k d short) ∙ prefix_len_passes p xs k d (omega arith)
