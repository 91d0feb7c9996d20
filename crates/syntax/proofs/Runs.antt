-- How many bytes at the front pass a test.
use Rattle.std.proofs.Common.{◌≡◌, ℕ, zero, suc, ◌+◌, ◌≤◌, ◌<◌, Bool, true, false, List, [], ◌∷◌, ◌++◌, length, take, drop, get_or, refl}
use Rattle.std.proofs.Common.{sym, ap, subst, ◌∙◌, inl, inr, arith, rules}
use Rattle.std.specs.List.{list_all}
use Rattle.std.specs.Prelude.{◌||◌}
use Rattle.std.proofs.lemmas.Grind.{common_steps}
use Rattle.std.proofs.lemmas.List.{at_drop_more, drop_all}
use Rattle.std.proofs.lemmas.Bool.{cases_Bool, and_from, and_parts, not-true, not_from_false}
use Rattle.syntax.specs.lexer.Bytes.{continues_word, ends_word}
use Rattle.syntax.specs.lexer.Lexing.{run_length}

-- of two tests one passes, and the second does not
pub first_holds : (a b : Bool) → (a || b) ≡ true → b ≡ false → a ≡ true
first_holds true b e f = refl
first_holds false b e f = absurd cc

pub run_step : (p : ℕ → Bool) (b : ℕ) (bs : List ℕ) → p b ≡ true → run_length p (b ∷ bs) ≡ suc (run_length p bs)
run_step p b bs e = rw e refl

pub run_stop : (p : ℕ → Bool) (b : ℕ) (bs : List ℕ) → p b ≡ false → run_length p (b ∷ bs) ≡ 0
run_stop p b bs e = rw e refl

pub run_le : (p : ℕ → Bool) (s : List ℕ) → run_length p s ≤ length s
run_le p [] = omega arith
run_le p (b ∷ bs) = elim (cases_Bool (p b)) [
  | inl y ↦ omega (arith, run_step p b bs y, run_le p bs)
  | inr n ↦ omega (arith, run_stop p b bs n)
]

pub all_both : (p : ℕ → Bool) (b : ℕ) (bs : List ℕ) → p b ≡ true → list_all p bs ≡ true → list_all p (b ∷ bs) ≡ true
all_both p b bs e f = and_from (p b) (list_all p bs) e f

pub all_first : (p : ℕ → Bool) (b : ℕ) (bs : List ℕ) → list_all p (b ∷ bs) ≡ true → (p b ≡ true) × (list_all p bs ≡ true)
all_first p b bs h = and_parts (p b) (list_all p bs) h

-- what passes one test passes a weaker one
pub all_weaker : (p q : ℕ → Bool) → ((b : ℕ) → p b ≡ true → q b ≡ true) → (s : List ℕ) → list_all p s ≡ true → list_all q s ≡ true
all_weaker p q each [] h = refl
all_weaker p q each (b ∷ bs) h = let w = all_first p b bs h in all_both q b bs (each b w.0) (all_weaker p q each bs w.1)

pub all_at : (p : ℕ → Bool) (text : List ℕ) (i : ℕ) → list_all p text ≡ true → i < length text → p (get_or text i 0) ≡ true
all_at p [] i h lt = absurd (omega arith)
all_at p (b ∷ text) zero h lt = (all_first p b text h).0
all_at p (b ∷ text) (suc i) h lt = all_at p text i (all_first p b text h).1 (omega arith)

pub run_all : (p : ℕ → Bool) (s : List ℕ) → list_all p (take (run_length p s) s) ≡ true
run_all p [] = refl
run_all p (b ∷ bs) = elim (cases_Bool (p b)) [
  | inl y ↦ subst (λ (n : ℕ). list_all p (take n (b ∷ bs)) ≡ true) (sym (run_step p b bs y)) (all_both p b (take (run_length p bs) bs) y (run_all p bs))
  | inr n ↦ subst (λ (n : ℕ). list_all p (take n (b ∷ bs)) ≡ true) (sym (run_stop p b bs n)) refl
]

-- each of them passes
pub run_passes : (p : ℕ → Bool) (s : List ℕ) (i : ℕ) → i < run_length p s → p (get_or s i 0) ≡ true
run_passes p [] i lt = absurd (omega arith)
run_passes p (b ∷ bs) zero lt = elim (cases_Bool (p b)) [ inl y ↦ y | inr n ↦ absurd (omega (arith, lt, run_stop p b bs n)) ]
run_passes p (b ∷ bs) (suc i) lt = elim (cases_Bool (p b)) [
  | inl y ↦ run_passes p bs i (omega (arith, lt, run_step p b bs y))
  | inr n ↦ absurd (omega (arith, lt, run_stop p b bs n))
]

pub run_at_least : (p : ℕ → Bool) (text rest : List ℕ) → list_all p text ≡ true → length text ≤ run_length p (text ++ rest)
run_at_least p [] rest h = omega arith
run_at_least p (b ∷ text) rest h = let w = all_first p b text h in omega (arith, run_step p b (text ++ rest) w.0, run_at_least p text rest w.1)

pub take_all : (s : List ℕ) → take (length s) s ≡ s
take_all s = search (rules, common_steps)

-- ---- words

-- where a word ends
pub word_ends : (s : List ℕ) → ends_word (drop (run_length continues_word s) s) ≡ true
word_ends [] = refl
word_ends (b ∷ bs) = elim (cases_Bool (continues_word b)) [
  | inl y ↦ subst (λ (n : ℕ). ends_word (drop n (b ∷ bs)) ≡ true) (sym (run_step continues_word b bs y)) (word_ends bs)
  | inr n ↦
      subst (λ (n : ℕ). ends_word (drop n (b ∷ bs)) ≡ true) (sym (run_stop continues_word b bs n)) (not_from_false (continues_word b) n)
]

pub word_exact : (text rest : List ℕ) → list_all continues_word text ≡ true → ends_word rest ≡ true → run_length continues_word (text ++ rest) ≡ length text
word_exact [] [] h e = refl
word_exact [] (b ∷ rest) h e = run_stop continues_word b rest (not-true (continues_word b) e)
word_exact (a ∷ text) rest h e = let w = all_first continues_word a text h in omega (arith, run_step continues_word a (text ++ rest) w.0, word_exact text rest w.1 e)

-- ---- the loops

pub run_yes : (p : ℕ → Bool) (s : List ℕ) (i : ℕ) → i < length s → p (get_or s i 0) ≡ true → run_length p (drop i s) ≡ suc (run_length p (drop (i + 1) s))
run_yes p s i lt e = at_drop_more (run_length p) s i 0 lt ∙ rw e refl

pub run_no : (p : ℕ → Bool) (s : List ℕ) (i : ℕ) → i < length s → p (get_or s i 0) ≡ false → run_length p (drop i s) ≡ 0
run_no p s i lt e = at_drop_more (run_length p) s i 0 lt ∙ rw e refl

pub run_end : (p : ℕ → Bool) (s : List ℕ) (i : ℕ) → length s ≤ i → run_length p (drop i s) ≡ 0
run_end p s i le = ap (run_length p) (drop_all i s le)

pub ruleset run_steps = (run_yes, run_no, run_end)
