-- Laws of the parts of a text.
use Rattle.std.proofs.Common.{◌≡◌, ℕ, zero, suc, ◌-◌, ◌<◌, Bool, true, false, List, []}
use Rattle.std.proofs.Common.{◌∷◌, ◌++◌, length, drop, nat_eq, refl, sym, ap, ◌∙◌, subst, arith}
use Rattle.std.specs.Prelude.{Result, Ok, Err, IfOk, nat_le, if◌then◌else◌}
use Rattle.values.specs.declared.refusal.OperationRefusal.{OperationRefusal}
use Rattle.values.specs.declared.refusal.OperationRefusal.TheVariants as refusal
use Rattle.std.specs.List.{starts_with, onto_first, flat_map, All}
use Rattle.std.proofs.lemmas.List.Elements.{All-cons, All-nil}
use Rattle.std.proofs.lemmas.Bool.{or_from, false≢true, false_from_ne_true}
use Rattle.std.proofs.lemmas.List.{append_assoc, drop_at}
use Rattle.values.specs.texts.Pieces.{parts, parts_after, within_items}
use Rattle.values.specs.texts.Search.{contains}
use Rattle.values.specs.texts.Joined.{joined_texts}
use Rattle.values.proofs.SearchLemmas.{Decides-starts_with}
use Rattle.values.proofs.JoinedLemmas.{some_part}

joined-onto_first : (separator : List ℕ) (b : ℕ) (pieces : List (List ℕ)) → joined_texts separator
    (onto_first b pieces) ≡ b ∷ joined_texts separator pieces
joined-onto_first separator b [] = refl
joined-onto_first separator b (piece ∷ pieces) = refl

-- an empty part in front adds a separator
joined-empty : (separator : List ℕ) (passed : ℕ) (text : List ℕ) → joined_texts separator
    ([] ∷ parts_after passed separator text) ≡ separator ++ joined_texts separator (parts_after passed separator text)
joined-empty separator passed text =
    let first = some_part passed separator text in
    ap (λ ps. joined_texts separator ([] ∷ ps)) first.2
    ∙ append_assoc separator first.0 (flat_map (λ next. separator ++ next) first.1)
    ∙ ap (λ ps. separator ++ joined_texts separator ps) (sym first.2)

whole_case : (s : ℕ) (ss : List ℕ) (stands : Bool) (b : ℕ) (bs : List ℕ) → starts_with nat_eq (b ∷ bs) (s ∷ ss) ≡ stands
    → joined_texts (s ∷ ss) (parts_after (length (s ∷ ss) - 1) (s ∷ ss) bs) ≡ drop (length (s ∷ ss) - 1) bs → joined_texts (s ∷ ss)
    (parts (s ∷ ss) bs) ≡ bs
    → joined_texts (s ∷ ss) (if stands then [] ∷ parts_after (length (s ∷ ss) - 1) (s ∷ ss) bs else onto_first b (parts (s ∷ ss) bs)) ≡ b ∷ bs
whole_case s ss true b bs is behind here =
    let w = (Decides-starts_with (b ∷ bs) (s ∷ ss)).0 is in
    let shorter : length (s ∷ ss) - 1 ≡ length ss = omega arith in
    let rest : drop (length (s ∷ ss) - 1) bs ≡ w.0 =
    ap (λ n. drop n bs) shorter ∙ ap (λ xs. drop (length (s ∷ ss)) xs) w.1 ∙ drop_at (s ∷ ss) w.0 (length (s ∷ ss)) refl in
    joined-empty (s ∷ ss) (length (s ∷ ss) - 1) bs ∙ ap (λ more. s ∷ ss ++ more) (behind ∙ rest) ∙ sym w.1
whole_case s ss false b bs is behind here = joined-onto_first (s ∷ ss) b (parts (s ∷ ss) bs) ∙ ap (λ more. b ∷ more) here

joined-parts_after : (s : ℕ) (ss : List ℕ) (passed : ℕ) (text : List ℕ) → joined_texts (s ∷ ss)
    (parts_after passed (s ∷ ss) text) ≡ drop passed text
joined-parts_after s ss zero [] = refl
joined-parts_after s ss (suc passed) [] = refl
joined-parts_after s ss zero (b ∷ bs) =
    whole_case s ss (starts_with nat_eq (b ∷ bs) (s ∷ ss)) b bs refl (joined-parts_after s ss (length (s ∷ ss) - 1) bs)
    (joined-parts_after s ss zero bs)
joined-parts_after s ss (suc passed) (b ∷ bs) = joined-parts_after s ss passed bs

-- the parts, joined by the separator, are the text
pub joined-parts : (separator text : List ℕ) → 0 < length separator → joined_texts separator (parts separator text) ≡ text
joined-parts [] text filled = absurd (omega arith)
joined-parts (s ∷ ss) text filled = joined-parts_after s ss zero text

empty_lacks : (s : ℕ) (ss : List ℕ) → contains [] (s ∷ ss) ≡ false
empty_lacks s ss = refl

-- no separator begins at the text, so none begins at a front of it
front_lacks : (separator : List ℕ) (b : ℕ) (bs front more : List ℕ) → bs ≡ front ++ more → starts_with nat_eq (b ∷ bs) separator ≡ false
    → contains front separator ≡ false → contains (b ∷ front) separator ≡ false
front_lacks separator b bs front more bs_is lacks none =
    or_from (starts_with nat_eq (b ∷ front) separator) (contains front separator)
    (false_from_ne_true (starts_with nat_eq (b ∷ front) separator) (λ begins.
    let w = (Decides-starts_with (b ∷ front) separator).0 begins in
    let whole : b ∷ bs ≡ separator ++ (w.0 ++ more) =
    ap (λ xs. b ∷ xs) bs_is ∙ ap (λ xs. xs ++ more) w.1 ∙ append_assoc separator w.0 more in
    false≢true (sym lacks ∙ (Decides-starts_with (b ∷ bs) separator).1 (w.0 ++ more, whole))))
    none

first_longer : (separator : List ℕ) (b : ℕ) (bs : List ℕ) (pieces : List (List ℕ)) → starts_with nat_eq (b ∷ bs) separator ≡ false
    → joined_texts separator pieces ≡ bs → All (λ piece. contains piece separator ≡ false) pieces → (q : List ℕ) (qs : List (List ℕ))
    → pieces ≡ q ∷ qs
    → All (λ piece. contains piece separator ≡ false) (onto_first b pieces)
first_longer separator b bs pieces lacks whole each q qs pieces_is =
    let P : List ℕ → Type 0 = λ piece. contains piece separator ≡ false in
    let cut : All P (q ∷ qs) = let Q : List (List ℕ) → Type 0 = λ ps. All P ps in subst Q pieces_is each in
    let bs_is : bs ≡ q ++ flat_map (λ next. separator ++ next) qs = sym whole ∙ ap (joined_texts separator) pieces_is in
    let Q : List (List ℕ) → Type 0 = λ ps. All P (onto_first b ps) in
    subst Q (sym pieces_is) (All-cons P (b ∷ q) qs
    (front_lacks separator b bs q (flat_map (λ next. separator ++ next) qs) bs_is lacks (cut 0 q (omega arith)))
    (λ k d below. cut (suc k) d (omega arith)))

lacking_case : (s : ℕ) (ss : List ℕ) (stands : Bool) (b : ℕ) (bs : List ℕ) → starts_with nat_eq (b ∷ bs) (s ∷ ss) ≡ stands
    → All (λ piece. contains piece (s ∷ ss) ≡ false) (parts_after (length (s ∷ ss) - 1) (s ∷ ss) bs)
    → All (λ piece. contains piece (s ∷ ss) ≡ false) (parts (s ∷ ss) bs)
    → All (λ piece. contains piece (s ∷ ss) ≡ false) (if stands then [] ∷ parts_after (length (s ∷ ss) - 1)
    (s ∷ ss) bs else onto_first b (parts (s ∷ ss) bs))
lacking_case s ss true b bs is behind here =
    All-cons (λ piece. contains piece (s ∷ ss) ≡ false) [] (parts_after (length (s ∷ ss) - 1) (s ∷ ss) bs) (empty_lacks s ss) behind
lacking_case s ss false b bs is behind here =
    let first = some_part zero (s ∷ ss) bs in
    first_longer (s ∷ ss) b bs (parts (s ∷ ss) bs) is (joined-parts_after s ss zero bs) here first.0 first.1 first.2

lacking : (s : ℕ) (ss : List ℕ) (passed : ℕ) (text : List ℕ) → All (λ piece. contains piece (s ∷ ss) ≡ false)
    (parts_after passed (s ∷ ss) text)
lacking s ss zero [] = let P : List ℕ → Type 0 = λ piece. contains piece (s ∷ ss) ≡ false in All-cons P [] [] (empty_lacks s ss) (All-nil P)
lacking s ss (suc passed) [] = let P : List ℕ → Type 0 = λ piece. contains piece (s ∷ ss) ≡ false in All-cons P [] []
    (empty_lacks s ss) (All-nil P)
lacking s ss zero (b ∷ bs) =
    lacking_case s ss (starts_with nat_eq (b ∷ bs) (s ∷ ss)) b bs refl (lacking s ss (length (s ∷ ss) - 1) bs) (lacking s ss zero bs)
lacking s ss (suc passed) (b ∷ bs) = lacking s ss passed bs

-- no part has the separator in it
pub parts_lack : (separator text : List ℕ) → 0 < length separator → All (λ piece. contains piece separator ≡ false) (parts separator text)
parts_lack [] text filled = absurd (omega arith)
parts_lack (s ∷ ss) text filled = lacking s ss zero text

found_are : (fits : Bool) (found pieces : List (List ℕ)) → Ok found ≡ (if fits then Ok pieces else Err refusal.Limit) → found ≡ pieces
found_are true found pieces e = cc
found_are false found pieces e = absurd cc

-- the laws of an answer that has the parts
pub whole_answer : (separator text : List ℕ) (answer : Result (List (List ℕ)) OperationRefusal) → 0 < length separator
    → answer ≡ within_items (parts separator text) → IfOk answer (λ found. joined_texts separator found ≡ text)
whole_answer separator text (Err e) filled is = tt
whole_answer separator text (Ok found) filled is =
    ap (joined_texts separator) (found_are (nat_le (length (parts separator text)) 65536) found (parts separator text) is)
    ∙ joined-parts separator text filled

pub apart_answer : (separator text : List ℕ) (answer : Result (List (List ℕ)) OperationRefusal) → 0 < length separator
    → answer ≡ within_items (parts separator text) → IfOk answer (All (λ part. contains part separator ≡ false))
apart_answer separator text (Err e) filled is = tt
apart_answer separator text (Ok found) filled is =
    let P : List (List ℕ) → Type 0 = λ ps. All (λ part. contains part separator ≡ false) ps in
    subst P (sym (found_are (nat_le (length (parts separator text)) 65536) found (parts separator text) is))
    (parts_lack separator text filled)
