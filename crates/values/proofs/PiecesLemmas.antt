-- The first piece of a text.
use Rattle.std.proofs.Common.{◌≡◌, ℕ, zero, suc, ◌+◌, ◌-◌, ◌<◌, ◌≤◌, Bool, true, false, not, List, [], ◌∷◌, ◌++◌, length, take, drop}
use Rattle.std.proofs.Common.{nat_eq, refl, sym, ap, ◌∙◌, subst, arith, rules, tests, map, Bor}
use Rattle.std.specs.Prelude.{filter, ◌||◌, ◌==◌, nat_le, Ok, Err, if◌then◌else◌}
use Rattle.std.specs.List.{starts_with, slice_split, onto_first, position_or_len, prefix_len}
use Rattle.std.specs.Str.Pattern.{LacksTextAt}
use Rattle.std.proofs.lemmas.List.{length-append, append_assoc, map_push}
use Rattle.std.proofs.lemmas.Bool.{eqb-true, false_from_ne_true, cond-true, cond-false}
use Rattle.values.specs.declared.refusal.OperationRefusal.TheVariants as refusal
use Rattle.values.specs.texts.Strip.{is_blank}
use Rattle.values.specs.texts.Pieces.{parts, parts_after, words, lines, lines_after, is_filled, is_line_end, within_items}
use Rattle.values.specs.texts.Cut.{lines_behind}
use Rattle.values.proofs.SearchLemmas.{Decides-starts_with}

-- a separator's other bytes are passed over
passed_over : (separator xs rest : List ℕ) → parts_after (length xs) separator (xs ++ rest) ≡ parts separator rest
passed_over separator [] rest = refl
passed_over separator (x ∷ xs) rest = passed_over separator xs rest

at_separator : (s : ℕ) (ss rest : List ℕ) → parts (s ∷ ss) (s ∷ (ss ++ rest)) ≡ [] ∷ parts (s ∷ ss) rest
at_separator s ss rest =
    let stands = (Decides-starts_with (s ∷ (ss ++ rest)) (s ∷ ss)).1 (rest, refl) in
    let shorter : length (s ∷ ss) - 1 ≡ length ss = omega arith in
    cond-true (starts_with nat_eq (s ∷ (ss ++ rest)) (s ∷ ss)) ([] ∷ parts_after (length (s ∷ ss) - 1) (s ∷ ss) (ss ++ rest))
    (onto_first s (parts_after zero (s ∷ ss) (ss ++ rest))) stands
    ∙ ap (λ n. [] ∷ parts_after n (s ∷ ss) (ss ++ rest)) shorter
    ∙ ap (λ pieces. [] ∷ pieces) (passed_over (s ∷ ss) ss rest)

-- one byte that no separator begins at
one_byte : (separator : List ℕ) (b : ℕ) (bs : List ℕ) → LacksTextAt separator (b ∷ bs) 0 → parts separator (b ∷ bs) ≡ onto_first b
    (parts separator bs)
one_byte separator b bs lacks =
    cond-false (starts_with nat_eq (b ∷ bs) separator) ([] ∷ parts_after (length separator - 1) separator bs)
    (onto_first b (parts separator bs))
    (false_from_ne_true (starts_with nat_eq (b ∷ bs) separator)
    (λ e. let w = (Decides-starts_with (b ∷ bs) separator).0 e in lacks w.0 w.1))

-- the first part ends where the separator first stands
pub parts_found : (s : ℕ) (ss front rest : List ℕ) → ((i : ℕ) → i < length front → LacksTextAt (s ∷ ss) (front ++ (s ∷ ss ++ rest)) i)
    → parts (s ∷ ss) (front ++ (s ∷ ss ++ rest)) ≡ front ∷ parts (s ∷ ss) rest
parts_found s ss [] rest lacks = at_separator s ss rest
parts_found s ss (b ∷ bs) rest lacks =
    one_byte (s ∷ ss) b (bs ++ (s ∷ ss ++ rest)) (lacks 0 (omega arith))
    ∙ ap (onto_first b) (parts_found s ss bs rest (λ i below. lacks (suc i) (omega arith)))

-- without a separator the text is the one part
pub parts_none : (separator text : List ℕ) → ((i : ℕ) → i ≤ length text → LacksTextAt separator text i) → parts separator text ≡ text ∷ []
parts_none separator [] lacks = refl
parts_none separator (b ∷ bs) lacks =
    one_byte separator b bs (lacks 0 (omega arith)) ∙ ap (onto_first b) (parts_none separator bs (λ i below. lacks (suc i) (omega arith)))

-- what stands behind the first element that passes
abbrev split_behind : {X : Type 0} → (X → Bool) → List X → List (List X)
split_behind passes [] = []
split_behind passes (x ∷ xs) = slice_split passes xs

split_front_case : {X : Type 0} (passes : X → Bool) (b : Bool) (x : X) (xs : List X) (n : ℕ)
    → slice_split passes xs ≡ take n xs ∷ split_behind passes (drop n xs) → passes x ≡ b
    → (if b then [] ∷ slice_split passes xs else onto_first x (slice_split passes xs))
    ≡ take (if not b then 1 + n else 0) (x ∷ xs) ∷ split_behind passes (drop (if not b then 1 + n else 0) (x ∷ xs))
split_front_case passes true x xs n e is = refl
split_front_case passes false x xs n e is =
    let more : suc n ≡ 1 + n = omega arith in
    ap (onto_first x) e ∙ ap (λ m. take m (x ∷ xs) ∷ split_behind passes (drop m (x ∷ xs))) more

-- the first part goes up to the first element that passes
split_front : {X : Type 0} (passes : X → Bool) (xs : List X)
    → slice_split passes xs ≡ take (position_or_len passes xs) xs ∷ split_behind passes (drop (position_or_len passes xs) xs)
split_front passes [] = refl
split_front passes (x ∷ xs) = split_front_case passes (passes x) x xs (position_or_len passes xs) (split_front passes xs) refl

-- an empty part is no word
words_behind_case : (b : Bool) (x : ℕ) (xs : List ℕ) (n : ℕ)
    → is_blank x ≡ b → filter is_filled (split_behind is_blank (drop n xs)) ≡ words (drop n xs)
    → filter is_filled (split_behind is_blank (drop (if not b then 1 + n else 0) (x ∷ xs))) ≡ words
    (drop (if not b then 1 + n else 0) (x ∷ xs))
words_behind_case true x xs n is e = sym
    (ap (filter is_filled) (cond-true (is_blank x) ([] ∷ slice_split is_blank xs) (onto_first x (slice_split is_blank xs)) is))
words_behind_case false x xs n is e =
    let more : suc n ≡ 1 + n = omega arith in
    let P : ℕ → Type 0 = λ m. filter is_filled (split_behind is_blank (drop m (x ∷ xs))) ≡ words (drop m (x ∷ xs)) in
    subst P more e

words_behind : (text : List ℕ) → filter is_filled (split_behind is_blank (drop (position_or_len is_blank text) text)) ≡ words
    (drop (position_or_len is_blank text) text)
words_behind [] = refl
words_behind (b ∷ bs) = words_behind_case (is_blank b) b bs (position_or_len is_blank bs) refl (words_behind bs)

kept : (b : ℕ) (piece : List ℕ) (pieces : List (List ℕ)) → filter is_filled ((b ∷ piece) ∷ pieces) ≡ (b ∷ piece) ∷ filter is_filled pieces
kept b piece pieces = refl

filled_front : (n m b : ℕ) (bs : List ℕ) (pieces : List (List ℕ)) → n ≡ suc m → filter is_filled (take n (b ∷ bs) ∷ pieces) ≡ take n
    (b ∷ bs) ∷ filter is_filled pieces
filled_front n m b bs pieces e =
    let P : ℕ → Type 0 = λ k. filter is_filled (take k (b ∷ bs) ∷ pieces) ≡ take k (b ∷ bs) ∷ filter is_filled pieces in
    subst P (sym e) (kept b (take m bs) pieces)

-- a text that begins with no white space begins with a word
pub words_first : (b : ℕ) (bs : List ℕ) → is_blank b ≡ false
    → words (b ∷ bs) ≡ take (position_or_len is_blank (b ∷ bs)) (b ∷ bs) ∷ words (drop (position_or_len is_blank (b ∷ bs)) (b ∷ bs))
words_first b bs is =
    let m = position_or_len is_blank bs in
    let more : suc m ≡ 1 + m = omega arith in
    let n : position_or_len is_blank (b ∷ bs) ≡ suc m = cond-true (not (is_blank b)) (1 + m) 0 (ap not is) ∙ sym more in
    ap (filter is_filled) (split_front is_blank (b ∷ bs))
    ∙ filled_front (position_or_len is_blank (b ∷ bs)) m b bs (split_behind is_blank (drop (position_or_len is_blank (b ∷ bs)) (b ∷ bs))) n
    ∙ ap (λ pieces. take (position_or_len is_blank (b ∷ bs)) (b ∷ bs) ∷ pieces) (words_behind (b ∷ bs))

words_skip_case : (b : Bool) (x : ℕ) (xs : List ℕ) (n : ℕ) → is_blank x ≡ b → words xs ≡ words (drop n xs)
    → words (x ∷ xs) ≡ words (drop (if b then 1 + n else 0) (x ∷ xs))
words_skip_case true x xs n is e =
    let more : suc n ≡ 1 + n = omega arith in
    ap (filter is_filled) (cond-true (is_blank x) ([] ∷ slice_split is_blank xs) (onto_first x (slice_split is_blank xs)) is) ∙ e
    ∙ ap (λ m. words (drop m (x ∷ xs))) more
words_skip_case false x xs n is e = refl

-- white space in front makes no word
pub words_skip : (text : List ℕ) → words text ≡ words (drop (prefix_len is_blank text) text)
words_skip [] = refl
words_skip (b ∷ bs) = words_skip_case (is_blank b) b bs (prefix_len is_blank bs) refl (words_skip bs)

line_case : (ten thirteen : Bool) (b : ℕ) (bs : List ℕ) (n : ℕ) → b == 10 ≡ ten → b == 13 ≡ thirteen
    → onto_first b (lines bs) ≡ (b ∷ take n bs) ∷ lines_behind (drop n bs)
    → lines (b ∷ bs) ≡ take (if not (ten || thirteen) then 1 + n else 0) (b ∷ bs) ∷ lines_behind
    (drop (if not (ten || thirteen) then 1 + n else 0) (b ∷ bs))
line_case true thirteen b bs n ten_is thirteen_is e =
    let P : ℕ → Type 0 = λ x. lines (x ∷ bs) ≡ [] ∷ lines_behind (x ∷ bs) in
    subst P (sym (eqb-true b 10 ten_is)) refl
line_case false true b bs n ten_is thirteen_is e =
    let P : ℕ → Type 0 = λ x. lines (x ∷ bs) ≡ [] ∷ lines_behind (x ∷ bs) in
    subst P (sym (eqb-true b 13 thirteen_is)) refl
line_case false false b bs n ten_is thirteen_is e =
    let more : suc n ≡ 1 + n = omega arith in
    cond-false (b == 10) ([] ∷ lines bs) (if b == 13 then [] ∷ lines_after true bs else onto_first b (lines bs)) ten_is
    ∙ cond-false (b == 13) ([] ∷ lines_after true bs) (onto_first b (lines bs)) thirteen_is
    ∙ e ∙ ap (λ m. take m (b ∷ bs) ∷ lines_behind (drop m (b ∷ bs))) more

-- a text that is not empty begins with a line
pub lines_first : (b : ℕ) (bs : List ℕ)
    → lines (b ∷ bs) ≡ take (position_or_len is_line_end (b ∷ bs)) (b ∷ bs) ∷ lines_behind (drop (position_or_len is_line_end (b ∷ bs))
    (b ∷ bs))
lines_first b [] = line_case (b == 10) (b == 13) b [] 0 refl refl refl
lines_first b (c ∷ cs) = line_case (b == 10) (b == 13) b (c ∷ cs) (position_or_len is_line_end (c ∷ cs)) refl refl
    (ap (onto_first b) (lines_first c cs))

-- a list has no room for another piece
pub too_many : (all found more : List (List ℕ)) (piece : List ℕ) → all ≡ found ++ (piece ∷ more) → length found ≡ 65536
    → Err refusal.Limit ≡ within_items all
too_many all found more piece all_is full =
    let count : length all ≡ length found + length (piece ∷ more) = ap length all_is ∙ length-append found (piece ∷ more) in
    sym (cond-false (nat_le (length all) 65536) (Ok all) (Err refusal.Limit) (search (rules, tests)))

pub few_enough : (all found : List (List ℕ)) → all ≡ found → length found ≤ 65536 → Ok found ≡ within_items all
few_enough all found all_is few =
    ap (λ pieces. Ok pieces) (sym all_is) ∙ sym (cond-true (nat_le (length all) 65536) (Ok all) (Err refusal.Limit) (search (rules, tests)))

-- a piece joins those that were found
pub one_more_piece : (all : List (List ℕ)) (found more_found : List (Bor (List ℕ))) (piece : Bor (List ℕ)) (here more : List (List ℕ))
    → all ≡ map (λ p. p.now) found ++ here → here ≡ piece.now ∷ more → more_found ≡ found ++ piece ∷ []
    → all ≡ map (λ p. p.now) more_found ++ more
one_more_piece all found more_found piece here more all_is here_is found_is =
    all_is ∙ ap (λ pieces. map (λ p. p.now) found ++ pieces) here_is
    ∙ sym (append_assoc (map (λ p. p.now) found) (piece.now ∷ []) more)
    ∙ ap (λ pieces. pieces ++ more) (sym (map_push (λ p. p.now) found piece))
    ∙ ap (λ pieces. map (λ p. p.now) pieces ++ more) (sym found_is)
