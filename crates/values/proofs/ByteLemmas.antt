-- Texts that are cut at a byte.
use Rattle.std.proofs.Common.{◌≡◌, ℕ, ◌+◌, ◌-◌, ◌<◌, true, false, not, List, [], ◌∷◌, ◌++◌, length, get_or, take, drop, nat_eq}
use Rattle.std.proofs.Common.{sym, ap, ◌∙◌, subst, arith}
use Rattle.std.specs.List.{position_or_len}
use Rattle.std.specs.Str.Pattern.{LacksTextAt}
use Rattle.std.specs.Str.{IsUtf8, IsCharBoundary}
use Rattle.std.proofs.lemmas.Str.{IsCharBoundary-after_ascii}
use Rattle.std.proofs.lemmas.List.{drop_more, get_or-drop, length-drop, nil_from_length, take-append-drop, append-nil}
use Rattle.std.proofs.lemmas.List.Sums.{prefix_len_passes, passes_at_first}
use Rattle.std.proofs.lemmas.Bool.{not-true}
use Rattle.std.proofs.lemmas.Bool.Decides.{nat_tests}
use Rattle.values.specs.texts.Pieces.{parts}
use Rattle.values.proofs.CutLemmas.{boundary_before, part_at}
use Rattle.values.proofs.PiecesLemmas.{parts_none}

ascii_alone : (byte : ℕ) → byte < 128 → (b : ℕ) → nat_eq b byte ≡ true → b < 128
ascii_alone byte low b e = grind (arith, nat_tests)

-- another byte stands before the first
other_before : (byte : ℕ) (text : List ℕ) (k : ℕ) → k < position_or_len (λ b. nat_eq b byte) text → nat_eq (get_or text k 0) byte ≡ false
other_before byte text k below = not-true (nat_eq (get_or text k 0) byte) (prefix_len_passes (λ b. not (nat_eq b byte)) text k 0 below)

-- where another byte stands, the one does not begin
lacks_byte : (byte : ℕ) (text : List ℕ) (k : ℕ) → (k < length text → nat_eq (get_or text k 0) byte ≡ false) → LacksTextAt (byte ∷ []) text k
lacks_byte byte text k other rest stands =
    let count : length text - k ≡ length (byte ∷ rest) = sym (length-drop k text) ∙ ap length stands in
    let same : k + 0 ≡ k = omega arith in
    let is : get_or text k 0 ≡ byte =
    ap (λ i. get_or text i 0) (sym same) ∙ sym (get_or-drop k text 0 0) ∙ ap (λ xs. get_or xs 0 0) stands in
    let differs : nat_eq (get_or text k 0) byte ≡ false = other (omega arith) in
    grind (arith, nat_tests)

-- a text may be cut before an ASCII byte, and behind it
pub boundary_before_byte : (byte : ℕ) (text : List ℕ) (n : ℕ) → byte < 128 → n ≡ position_or_len (λ b. nat_eq b byte) text
    → IsCharBoundary text n
boundary_before_byte byte text n low e = let P : ℕ → Type 0 = λ i. IsCharBoundary text i in subst P (sym e)
    (boundary_before (λ b. nat_eq b byte) (ascii_alone byte low) text)

-- the byte with which what is left begins
first_left : (byte : ℕ) (text rest : List ℕ) (n : ℕ) → n ≡ position_or_len (λ b. nat_eq b byte) text → rest ≡ drop n text
    → 0 < length rest → (n < length text) × (get_or text n 0 ≡ byte)
first_left byte text rest n e left filled =
    let count : length rest ≡ length text - n = ap length left ∙ length-drop n text in
    let within : position_or_len (λ b. nat_eq b byte) text < length text = omega arith in
    let passes = passes_at_first (λ b. nat_eq b byte) text 0 within in
    let here : get_or text n 0 ≡ get_or text (position_or_len (λ b. nat_eq b byte) text) 0 = ap (λ i. get_or text i 0) e in
    (omega arith, grind (arith, nat_tests))

pub boundary_behind_byte : (byte : ℕ) (text rest : List ℕ) (n : ℕ) → IsUtf8 text → byte < 128
    → n ≡ position_or_len (λ b. nat_eq b byte) text → rest ≡ drop n text → 0 < length rest → IsCharBoundary rest 1
boundary_behind_byte byte text rest n utf8 low e left filled =
    let first = first_left byte text rest n e left filled in
    let whole = IsCharBoundary-after_ascii text n utf8 first.0 (omega (arith, first.1)) in
    let count : length rest ≡ length text - n = ap length left ∙ length-drop n text in
    let next : get_or rest 1 0 ≡ get_or text (n + 1) 0 = ap (λ xs. get_or xs 1 0) left ∙ get_or-drop n text 1 0 in
    (omega arith, λ below high. omega (arith, next, whole.1 (omega arith) (omega (arith, next))))

-- the part before the first place of a byte, and the others
pub part_before_byte : (byte : ℕ) (text part rest behind : List ℕ) (n : ℕ) → n ≡ position_or_len (λ b. nat_eq b byte) text
    → part ≡ take n text → rest ≡ drop n text → behind ≡ drop 1 rest → 0 < length rest
    → parts (byte ∷ []) text ≡ part ∷ parts (byte ∷ []) behind
part_before_byte byte text part rest behind n e part_is left behind_is filled =
    let first = first_left byte text rest n e left filled in
    let stands : drop n text ≡ byte ∷ drop (n + 1) text = drop_more text n 0 first.0 ∙ ap (λ b. b ∷ drop (n + 1) text) first.1 in
    part_at (byte ∷ []) text part behind n (n + 1) (omega arith)
    (λ k below. lacks_byte byte text k (λ _. other_before byte text k (omega arith)))
    stands part_is (behind_is ∙ ap (drop 1) (left ∙ stands)) (omega arith)

-- without the byte the text is the one part
pub no_byte : (byte : ℕ) (text part rest : List ℕ) (n : ℕ) → n ≡ position_or_len (λ b. nat_eq b byte) text
    → part ≡ take n text → rest ≡ drop n text → length rest ≡ 0 → parts (byte ∷ []) text ≡ part ∷ []
no_byte byte text part rest n e part_is left none =
    let count : length rest ≡ length text - n = ap length left ∙ length-drop n text in
    let whole : text ≡ part =
    sym (take-append-drop n text) ∙ (λ k. sym part_is k ++ nil_from_length (drop n text) (ap length (sym left) ∙ none) k)
    ∙ append-nil part in
    parts_none (byte ∷ []) text (λ k within. lacks_byte byte text k (λ below. other_before byte text k (omega arith)))
    ∙ ap (λ xs. xs ∷ []) whole
