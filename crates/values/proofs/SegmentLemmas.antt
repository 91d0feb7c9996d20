-- Places in a text.
use Rattle.std.proofs.Common.{◌≡◌, ℕ, zero, suc, ◌+◌, ◌-◌, ◌<◌, ◌≤◌, Bool, true, false, List, [], ◌∷◌, ◌++◌, length, take, drop, get_or}
use Rattle.std.proofs.Common.{refl, sym, ap, ◌∙◌, subst, arith, inl, inr, Some, None, ◌^◌}
use Rattle.std.specs.Prelude.{◌&&◌, ◌==◌, ◌≢◌, nat_lt, slice_index, slice_range, if◌then◌else◌}
use Rattle.std.specs.Char.{is_ascii_digit}
use Rattle.std.specs.List.{prefix_len, list_all, flat_map}
use Rattle.std.specs.Str.{IsUtf8, IsCharBoundary}
use Rattle.std.specs.Str.Parse.{IsNumeral, digits_value, without_leading_plus}
use Rattle.std.proofs.lemmas.Str.Parse.{without_leading_plus_none}
use Rattle.std.proofs.lemmas.Bool.{eq-eqb, eqb-true, cases_lt, cond-true, cond-false, and_parts}
use Rattle.std.proofs.lemmas.Bool.Decides.{nat_tests}
use Rattle.std.proofs.lemmas.List.{take_all, drop_all, drop_more, append-nil, append_assoc, take-append-drop}
use Rattle.std.proofs.lemmas.List.Sums.{prefix_len_passes}
use Rattle.values.specs.declared.texts.placeholders.Places.{Places}
use Rattle.values.specs.declared.texts.placeholders.Places.TheVariants as places
use Rattle.values.specs.texts.Segments.{Segment, text, place, is_name_start, is_name_byte, name_length, place_length, onto_text}
use Rattle.values.specs.texts.Segments.{segments_after}
use Rattle.values.specs.texts.Segments.{segments, text_segments, text_of_segment, is_number, place_number}
use Rattle.values.proofs.NumberLemmas.{AllDigits-from_test}
use Rattle.values.proofs.CutLemmas.{boundary_after}

behind : (passed : ℕ) (kind : Places) (t : List ℕ) → segments_after passed kind t ≡ segments kind (drop passed t)
behind zero kind t = refl
behind (suc passed) kind [] = refl
behind (suc passed) kind (b ∷ bs) = behind passed kind bs

-- no text stands first, so a byte in front is a text of its own
abbrev IsApart : List Segment → Type 0
IsApart ss = (b : ℕ) → onto_text b ss ≡ text (b ∷ []) ∷ ss

onto_texts : (b : ℕ) (t : List ℕ) (ss : List Segment) → IsApart ss → onto_text b (text_segments t ++ ss) ≡ text_segments (b ∷ t) ++ ss
onto_texts b [] ss apart = apart b
onto_texts b (c ∷ t) ss apart = refl

-- bytes at which no place begins are a text
segments_before : (kind : Places) (t : List ℕ) (n : ℕ) → n ≤ length t → ((k : ℕ) → k < n → place_length kind (drop k t) ≡ 0)
    → IsApart (segments kind (drop n t)) → segments kind t ≡ text_segments (take n t) ++ segments kind (drop n t)
segments_before kind t zero within none apart = refl
segments_before kind [] (suc n) within none apart = absurd (omega arith)
segments_before kind (b ∷ bs) (suc n) within none apart =
    cond-true (place_length kind (b ∷ bs) == 0) (onto_text b (segments kind bs))
    (place (take (place_length kind (b ∷ bs)) bs) ∷ segments_after (place_length kind (b ∷ bs) + 1) kind bs)
    (eq-eqb (place_length kind (b ∷ bs)) 0 (none 0 (omega arith)))
    ∙ ap (onto_text b) (segments_before kind bs n (omega arith) (λ k below. none (suc k) (omega arith)) apart)
    ∙ onto_texts b (take n bs) (segments kind (drop n bs)) apart

-- a place at the start of a text
segments_at : (kind : Places) (rest : List ℕ) (count : ℕ) → count ≡ place_length kind rest → 0 < count
    → segments kind rest ≡ place (slice_range rest 1 (count + 1)) ∷ segments kind (drop (count + 2) rest)
segments_at kind [] count is some = absurd (omega arith)
segments_at kind (b ∷ bs) count is some =
    let digits : count ≡ count + 1 - 1 = omega arith in
    let end : suc (count + 1) ≡ count + 2 = omega arith in
    let here : (place_length kind (b ∷ bs) == 0) ≡ false = grind (arith, nat_tests) in
    cond-false (place_length kind (b ∷ bs) == 0) (onto_text b (segments kind bs))
    (place (take (place_length kind (b ∷ bs)) bs) ∷ segments_after (place_length kind (b ∷ bs) + 1) kind bs) here
    ∙ ap (λ n. place (take n bs) ∷ segments_after (n + 1) kind bs) (sym is)
    ∙ ap (λ ss. place (take count bs) ∷ ss) (behind (count + 1) kind bs)
    ∙ (λ k. place (take (digits k) bs) ∷ segments kind (drop (end k) (b ∷ bs)))

apart_from : (ss : List Segment) (name : List ℕ) (more : List Segment) → ss ≡ place name ∷ more → IsApart ss
apart_from ss name more is b = ap (onto_text b) is ∙ ap (λ r. text (b ∷ []) ∷ r) (sym is)

-- the segments up to the first place, and those behind it
pub first_segments : (kind : Places) (t : List ℕ) (at count : ℕ) → at ≤ length t → ((k : ℕ) → k < at → place_length kind (drop k t) ≡ 0)
    → count ≡ place_length kind (drop at t) → 0 < count
    → segments kind t ≡ text_segments (take at t) ++
    (place (slice_range (drop at t) 1 (count + 1)) ∷ segments kind (drop (count + 2) (drop at t)))
first_segments kind t at count within none is some =
    let here = segments_at kind (drop at t) count is some in
    segments_before kind t at within none (apart_from (segments kind (drop at t)) _ _ here)
    ∙ ap (λ ss. text_segments (take at t) ++ ss) here

-- a text without a place
pub no_places : (kind : Places) (t : List ℕ) (at : ℕ) → at ≤ length t → ((k : ℕ) → k < at → place_length kind (drop k t) ≡ 0)
    → (at < length t → 0 < place_length kind (drop at t)) → place_length kind (drop at t) ≡ 0 → segments kind t ≡ text_segments t
no_places kind t at within before stands none =
    let end : length t ≤ at = elim (cases_lt at (length t)) [ inl below ↦ absurd (omega (arith, stands below)) | inr all ↦ all ] in
    let gone : segments kind (drop at t) ≡ [] = ap (segments kind) (drop_all at t end) in
    segments_before kind t at within before (λ b. ap (onto_text b) gone ∙ ap (λ r. text (b ∷ []) ∷ r) (sym gone))
    ∙ ap (λ ss. text_segments (take at t) ++ ss) gone ∙ append-nil (text_segments (take at t))
    ∙ ap text_segments (take_all at t end)

-- ---- the bytes of a place

place_parts : (t u : Bool) (n count : ℕ) → count ≡ (if t && u then n else 0) → 0 < count → (t ≡ true) × (u ≡ true) × (count ≡ n)
place_parts true true n count is some = (refl, refl, is)
place_parts true false n count is some = absurd (omega arith)
place_parts false u n count is some = absurd (omega arith)

digit_is_ascii : (c : ℕ) → is_ascii_digit c ≡ true → c < 128
digit_is_ascii c h = grind (arith, nat_tests)

name_byte_is_ascii : (c : ℕ) → is_name_byte c ≡ true → c < 128
name_byte_is_ascii c h = grind (arith, nat_tests)

name_in_front : (start : Bool) (bs : List ℕ) (i : ℕ) → i < (if start then prefix_len is_name_byte bs else 0) → get_or bs i 0 < 128
name_in_front true bs i below = name_byte_is_ascii (get_or bs i 0) (prefix_len_passes is_name_byte bs i 0 below)
name_in_front false bs i below = absurd (omega arith)

name_is_ascii : (kind : Places) (bs : List ℕ) (i : ℕ) → i < name_length kind bs → get_or bs i 0 < 128
name_is_ascii places.Numbers bs i below = digit_is_ascii (get_or bs i 0) (prefix_len_passes is_ascii_digit bs i 0 below)
name_is_ascii places.Names [] i below = absurd (omega arith)
name_is_ascii places.Names (b ∷ bs) i below = name_in_front (is_name_start b) (b ∷ bs) i below

is_inside : (bs : List ℕ) (n : ℕ) → get_or bs n 0 ≡ 64 → n < length bs
is_inside [] n e = absurd (omega arith)
is_inside (b ∷ bs) zero e = omega arith
is_inside (b ∷ bs) (suc n) e = let below = is_inside bs n e in omega arith

place_byte : (bs : List ℕ) (n j : ℕ) → get_or bs n 0 ≡ 64 → ((i : ℕ) → i < n → get_or bs i 0 < 128) → j < n + 1 → get_or bs j 0 < 128
place_byte bs n j end name within =
    elim (cases_lt j n) [
      | inl below ↦ name j below
      | inr above ↦ let same : j ≡ n = omega arith in omega (arith, ap (λ i. get_or bs i 0) same)
    ]

place_bytes : (b : ℕ) (bs : List ℕ) (n : ℕ) → b ≡ 64 → get_or bs n 0 ≡ 64 → ((i : ℕ) → i < n → get_or bs i 0 < 128) → (k : ℕ)
    → k < n + 2 → get_or (b ∷ bs) k 0 < 128
place_bytes b bs n first end name zero within = omega arith
place_bytes b bs n first end name (suc j) within = place_byte bs n j end name (omega arith)

-- a place is ASCII, and goes on to its second `@`
pub place_fits : (kind : Places) (rest : List ℕ) (count : ℕ) → count ≡ place_length kind rest → 0 < count
    → (count + 2 ≤ length rest) × ((k : ℕ) → k < count + 2 → get_or rest k 0 < 128)
place_fits kind [] count is some = absurd (omega arith)
place_fits kind (b ∷ bs) count is some =
    let n = name_length kind bs in
    let parts = place_parts (b == 64) (slice_index bs n == 64) n count is some in
    let end : get_or bs n 0 ≡ 64 = eqb-true (slice_index bs n) 64 parts.1 in
    let inside = is_inside bs n end in (
      omega arith,
      λ k within. place_bytes b bs n (eqb-true b 64 parts.0) end (name_is_ascii kind bs) k (omega arith),
    )

pub boundary_in_place : (kind : Places) (rest : List ℕ) (count n : ℕ) → IsUtf8 rest → count ≡ place_length kind rest → 0 < count
    → n ≤ count + 2 → IsCharBoundary rest n
boundary_in_place kind rest count n utf8 is some within =
    let fits = place_fits kind rest count is some in
    boundary_after rest n utf8 (omega arith) (λ k below. fits.1 k (omega arith))

-- ---- segments spell the text

onto_spelled : (b : ℕ) (ss : List Segment) → flat_map text_of_segment (onto_text b ss) ≡ b ∷ flat_map text_of_segment ss
onto_spelled b [] = refl
onto_spelled b (text t ∷ ss) = refl
onto_spelled b (place name ∷ ss) = refl

place_whole : (b : ℕ) (bs more : List ℕ) (n : ℕ) → b ≡ 64 → get_or bs n 0 ≡ 64 → more ≡ drop (n + 1) bs
    → (64 ∷ (take n bs ++ 64 ∷ [])) ++ more ≡ b ∷ bs
place_whole b bs more n first end is =
    let inside = is_inside bs n end in
    let next : drop n bs ≡ 64 ∷ drop (n + 1) bs = drop_more bs n 0 inside ∙ ap (λ x. x ∷ drop (n + 1) bs) end in
    ap (λ x. 64 ∷ x) (append_assoc (take n bs) (64 ∷ []) more ∙ ap (λ x. take n bs ++ 64 ∷ x) is ∙ ap (λ x. take n bs ++ x) (sym next)
    ∙ take-append-drop n bs)
    ∙ ap (λ x. x ∷ bs) (sym first)

spelled_case : (none : Bool) (kind : Places) (b : ℕ) (bs : List ℕ) → (place_length kind (b ∷ bs) == 0) ≡ none
    → flat_map text_of_segment (segments_after 0 kind bs) ≡ bs
    → flat_map text_of_segment (segments_after (place_length kind (b ∷ bs) + 1) kind bs) ≡ drop (place_length kind (b ∷ bs) + 1) bs
    → flat_map text_of_segment (if none then onto_text b (segments_after 0 kind bs)
    else place (take (place_length kind (b ∷ bs)) bs) ∷ segments_after (place_length kind (b ∷ bs) + 1) kind bs) ≡ b ∷ bs
spelled_case true kind b bs is later behind_it = onto_spelled b (segments_after 0 kind bs) ∙ ap (λ t. b ∷ t) later
spelled_case false kind b bs is later behind_it =
    let count = place_length kind (b ∷ bs) in
    let some : 0 < count = grind (arith, nat_tests) in
    let parts = place_parts (b == 64) (slice_index bs (name_length kind bs) == 64) (name_length kind bs) count refl some in
    let end : get_or bs count 0 ≡ 64 = ap (λ n. get_or bs n 0) parts.2 ∙ eqb-true (slice_index bs (name_length kind bs)) 64 parts.1 in
    place_whole b bs (flat_map text_of_segment (segments_after (count + 1) kind bs)) count (eqb-true b 64 parts.0) end behind_it

spelled_after : (passed : ℕ) (kind : Places) (t : List ℕ) → flat_map text_of_segment (segments_after passed kind t) ≡ drop passed t
spelled_after zero kind [] = refl
spelled_after (suc passed) kind [] = refl
spelled_after zero kind (b ∷ bs) =
    spelled_case (place_length kind (b ∷ bs) == 0) kind b bs refl (spelled_after 0 kind bs)
    (spelled_after (place_length kind (b ∷ bs) + 1) kind bs)
spelled_after (suc passed) kind (b ∷ bs) = spelled_after passed kind bs

pub segments_spell : (kind : Places) (t : List ℕ) → flat_map text_of_segment (segments kind t) ≡ t
segments_spell kind t = spelled_after 0 kind t

-- ---- segments that are found one after another

-- what was found and what is left are all
pub one_more : (found before : List Segment) (first name : List ℕ) (rest whole : List Segment) (here : List Segment)
    → found ++ here ≡ whole → here ≡ text_segments first ++ (place name ∷ rest) → before ≡ found ++ text_segments first
    → (before ++ place name ∷ []) ++ rest ≡ whole
one_more found before first name rest whole here is here_is before_is =
    append_assoc before (place name ∷ []) rest ∙ ap (λ ss. ss ++ (place name ∷ rest)) before_is
    ∙ append_assoc found (text_segments first) (place name ∷ rest) ∙ ap (λ ss. found ++ ss) (sym here_is) ∙ is

pub all_found : (found after whole here : List Segment) (t : List ℕ) → found ++ here ≡ whole → here ≡ text_segments t
    → after ≡ found ++ text_segments t → after ≡ whole
all_found found after whole here t is here_is after_is = after_is ∙ ap (λ ss. found ++ ss) (sym here_is) ∙ is

-- ---- the number of a place

no_plus : (t : List ℕ) → is_number t ≡ true → without_leading_plus t ≡ t
no_plus [] h = absurd cc
no_plus (b ∷ bs) h =
    let digits = and_parts (nat_lt 0 (length (b ∷ bs))) (list_all is_ascii_digit (b ∷ bs)) h in
    let first = and_parts (is_ascii_digit b) (list_all is_ascii_digit bs) digits.1 in
    let plain : b ≢ 43 = grind (arith, nat_tests) in
    without_leading_plus_none (b ∷ bs) plain

digits_numeral : (t : List ℕ) → is_number t ≡ true → IsNumeral 10 t
digits_numeral t h =
    let parts = and_parts (nat_lt 0 (length t)) (list_all is_ascii_digit t) h in
    let some : 0 < length t = grind (arith, nat_tests) in
    (some, AllDigits-from_test t parts.1)

number_case : (b c : Bool) (v : ℕ) (t : List ℕ) → is_number t ≡ b → nat_lt (digits_value 10 t) (2 ^ 64) ≡ c → (b && c) ≡ true → v ≡ digits_value 10 t
    → Some v ≡ place_number t
number_case true true v t is fits both_true v_is =
    ap (λ x. Some x) v_is ∙ sym (ap (λ (x : Bool). if x && nat_lt (digits_value 10 t) (2 ^ 64) then Some (digits_value 10 t) else None) is
    ∙ ap (λ (x : Bool). if x then Some (digits_value 10 t) else None) fits)
number_case true false v t is fits both_true v_is = absurd cc
number_case false c v t is fits both_true v_is = absurd cc

pub number_read : (t : List ℕ) (v : ℕ) → is_number t ≡ true
    → (IsNumeral 10 (without_leading_plus t) × (digits_value 10 (without_leading_plus t) < 2 ^ 64)) × (v ≡ digits_value 10 (without_leading_plus t))
    → Some v ≡ place_number t
number_read t v h read =
    let plain = no_plus t h in
    let value : v ≡ digits_value 10 t = read.1 ∙ ap (digits_value 10) plain in
    let small : digits_value 10 t < 2 ^ 64 = subst (λ x. digits_value 10 x < 2 ^ 64) plain read.0.1 in
    let test : nat_lt (digits_value 10 t) (2 ^ 64) ≡ true = grind (arith, nat_tests) in
    number_case true true v t h test refl value

none_case : (c : Bool) (t : List ℕ) → nat_lt (digits_value 10 t) (2 ^ 64) ≡ c → c ≡ false → is_number t ≡ true → None ≡ place_number t
none_case true t is h digits = absurd cc
none_case false t is h digits =
    sym (ap (λ (x : Bool). if x && nat_lt (digits_value 10 t) (2 ^ 64) then Some (digits_value 10 t) else None) digits
    ∙ ap (λ (x : Bool). if x then Some (digits_value 10 t) else None) is)

large_false : (c : Bool) (v : ℕ) → nat_lt v (2 ^ 64) ≡ c → (v < 2 ^ 64 → ⊥) → c ≡ false
large_false true v is large = absurd (large (grind (arith, nat_tests)))
large_false false v is large = refl

pub number_too_large : (t : List ℕ) → is_number t ≡ true
    → ¬ (IsNumeral 10 (without_leading_plus t) × (digits_value 10 (without_leading_plus t) < 2 ^ 64)) → None ≡ place_number t
number_too_large t h large =
    let plain = no_plus t h in
    let numeral : IsNumeral 10 (without_leading_plus t) = subst (λ x. IsNumeral 10 x) (sym plain) (digits_numeral t h) in
    none_case (nat_lt (digits_value 10 t) (2 ^ 64)) t refl
    (large_false (nat_lt (digits_value 10 t) (2 ^ 64)) (digits_value 10 t) refl
    (λ small. large (numeral, subst (λ x. digits_value 10 x < 2 ^ 64) (sym plain) small))) h
