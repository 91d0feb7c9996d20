-- Texts as their characters: what stands before and after some of them.
use Rattle.std.proofs.Common.{◌≡◌, ℕ, ◌+◌, ◌-◌, ◌≤◌, List, ◌++◌, length, take, drop, sym, ap, ◌∙◌, subst, arith}
use Rattle.std.specs.Char.{encode_utf8}
use Rattle.std.specs.Str.{chars, encode_utf8_all, IsUtf8, IsCharBoundary}
use Rattle.std.proofs.lemmas.List.{drop-drop, take-append-drop, length-drop, length-append, take_at, drop_all}
use Rattle.std.proofs.lemmas.Str.{cons_from_encodes, length-le-encodes, encodes-append, encodes-chars, IsCharBoundary-at_seam}

-- one character further
pub after_char : (cs : List ℕ) (k c : ℕ) (rest more : List ℕ) → rest ≡ encode_utf8_all (drop k cs) → rest ≡ encode_utf8 c ++ more
    → more ≡ encode_utf8_all (drop (k + 1) cs)
after_char cs k c rest more whole first =
    let parts = cons_from_encodes (drop k cs) more c (sym whole ∙ first) in
    sym parts.2 ∙ ap encode_utf8_all (sym (ap (drop 1) parts.1) ∙ drop-drop 1 k cs)

-- where nothing is left there are no more characters
pub after_end : (cs : List ℕ) (k n : ℕ) → k ≤ n → length (encode_utf8_all (drop k cs)) ≡ 0 → encode_utf8_all
    (drop k cs) ≡ encode_utf8_all (drop n cs)
after_end cs k n below none =
    let short = length-le-encodes (drop k cs) in
    let left = length-drop k cs in
    ap encode_utf8_all (drop_all k cs (omega arith) ∙ sym (drop_all n cs (omega arith)))

-- a text is its first characters and then the others
pub cut_chars : (text : List ℕ) (n : ℕ) → IsUtf8 text → text ≡ encode_utf8_all (take n (chars text)) ++ encode_utf8_all
    (drop n (chars text))
cut_chars text n utf8 = sym (encodes-chars text utf8) ∙ ap encode_utf8_all (sym (take-append-drop n (chars text))) ∙ encodes-append
    (take n (chars text)) (drop n (chars text))

pub rest-le : (text front rest : List ℕ) → text ≡ front ++ rest → length rest ≤ length text
rest-le text front rest e = let n : length text ≡ length front + length rest = ap length e ∙ length-append front rest in omega arith

pub front_length : (text front rest : List ℕ) → text ≡ front ++ rest → length front ≡ length text - length rest
front_length text front rest e = let n : length text ≡ length front + length rest = ap length e ∙ length-append front rest in omega arith

-- what stands before the end of a text
pub front_is : (text front rest : List ℕ) → text ≡ front ++ rest → take (length text - length rest) text ≡ front
front_is text front rest e = ap (take (length text - length rest)) e ∙ take_at front rest (length text - length rest)
    (front_length text front rest e)

pub front_boundary : (text front rest : List ℕ) → text ≡ front ++ rest → IsUtf8 rest → IsCharBoundary text (length text - length rest)
front_boundary text front rest e utf8 =
    let P : ℕ → Type 0 = λ n. IsCharBoundary text n in
    subst P (front_length text front rest e) (IsCharBoundary-at_seam text front rest e utf8)
