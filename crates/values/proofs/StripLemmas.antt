-- Characters that go from the ends of a text.
use Rattle.std.proofs.Common.{◌≡◌, ℕ, ◌+◌, ◌<◌, Bool, true, false, List, [], ◌∷◌, ◌++◌, length, refl, sym, ap, ◌∙◌, arith}
use Rattle.std.specs.Prelude.{reverse, if◌then◌else◌}
use Rattle.std.specs.Char.{encode_utf8}
use Rattle.std.specs.Str.{chars, encode_utf8_all, IsUtf8}
use Rattle.std.proofs.lemmas.List.{nil_from_length, append-nil, reverse-append, reverse-reverse, length-append}
use Rattle.std.proofs.lemmas.Str.{chars-nil, chars_past_char, encodes_same, encodes-chars, encodes-append, length-encode, len_utf8_bounds}
use Rattle.values.specs.texts.Strip.{without_first, without_last, stripped_text}

same_if : (a b : Bool) (xs ys zs : List ℕ) → a ≡ b → xs ≡ ys → (if a then xs else zs) ≡ (if b then ys else zs)
same_if true true xs ys zs e h = h
same_if false false xs ys zs e h = refl
same_if true false xs ys zs e h = absurd cc
same_if false true xs ys zs e h = absurd cc

-- two tests that agree take away the same characters
pub without_first-same : (p q : ℕ → Bool) → ((c : ℕ) → p c ≡ q c) → (cs : List ℕ) → without_first p cs ≡ without_first q cs
without_first-same p q agree [] = refl
without_first-same p q agree (c ∷ cs) =
    same_if (p c) (q c) (without_first p cs) (without_first q cs) (c ∷ cs) (agree c) (without_first-same p q agree cs)

pub stripped-same : (p q : ℕ → Bool) → ((c : ℕ) → p c ≡ q c) → (text : List ℕ) → stripped_text p text ≡ stripped_text q text
stripped-same p q agree text =
    let front = without_first-same p q agree (chars text) in
    ap (λ cs. encode_utf8_all (without_last p cs)) front
    ∙ ap (λ cs. encode_utf8_all (reverse cs)) (without_first-same p q agree (reverse (without_first q (chars text))))

first_of : (b : Bool) (xs ys : List ℕ) → b ≡ false → (if b then xs else ys) ≡ ys
first_of false xs ys e = refl
first_of true xs ys e = absurd cc

later_of : (b : Bool) (xs ys : List ℕ) → b ≡ true → (if b then xs else ys) ≡ xs
later_of true xs ys e = refl
later_of false xs ys e = absurd cc

none : (text : List ℕ) → length text ≡ 0 → chars text ≡ []
none text e = ap chars (nil_from_length text e) ∙ chars-nil

-- at the front
pub first_none : (p : ℕ → Bool) (rest : List ℕ) → length rest ≡ 0 → without_first p (chars rest) ≡ chars rest
first_none p rest e = ap (without_first p) (none rest e) ∙ sym (none rest e)

pub first_kept : (p : ℕ → Bool) (rest more : List ℕ) (c : ℕ) → IsUtf8 rest → rest ≡ encode_utf8 c ++ more → p c ≡ false
    → without_first p (chars rest) ≡ chars rest
first_kept p rest more c utf8 first stays =
    let is = chars_past_char rest more c utf8 first in
    ap (without_first p) is ∙ first_of (p c) (without_first p (chars more)) (c ∷ chars more) stays ∙ sym is

pub first_gone : (p : ℕ → Bool) (rest more : List ℕ) (c : ℕ) → IsUtf8 rest → rest ≡ encode_utf8 c ++ more → p c ≡ true
    → without_first p (chars more) ≡ without_first p (chars rest)
first_gone p rest more c utf8 first goes =
    let is = chars_past_char rest more c utf8 first in
    sym (ap (without_first p) is ∙ later_of (p c) (without_first p (chars more)) (c ∷ chars more) goes)

-- at the end
last_char : (rest front : List ℕ) (c : ℕ) → IsUtf8 rest → IsUtf8 front → rest ≡ front ++ encode_utf8 c → chars rest ≡ chars front ++ c ∷ []
last_char rest front c utf8 before last =
    encodes_same (chars rest) (chars front ++ c ∷ [])
    (encodes-chars rest utf8 ∙ last ∙ ap (λ bs. bs ++ encode_utf8 c) (sym (encodes-chars front before))
    ∙ ap (λ bs. encode_utf8_all (chars front) ++ bs) (sym (append-nil (encode_utf8 c)))
    ∙ sym (encodes-append (chars front) (c ∷ [])))

turned : (rest front : List ℕ) (c : ℕ) → IsUtf8 rest → IsUtf8 front → rest ≡ front ++ encode_utf8 c
    → reverse (chars rest) ≡ c ∷ reverse (chars front)
turned rest front c utf8 before last = ap reverse (last_char rest front c utf8 before last) ∙ reverse-append (chars front) (c ∷ [])

pub last_none : (p : ℕ → Bool) (rest : List ℕ) → length rest ≡ 0 → without_last p (chars rest) ≡ chars rest
last_none p rest e = ap (without_last p) (none rest e) ∙ sym (none rest e)

pub last_kept : (p : ℕ → Bool) (rest front : List ℕ) (c : ℕ) → IsUtf8 rest → IsUtf8 front → rest ≡ front ++ encode_utf8 c → p c ≡ false
    → without_last p (chars rest) ≡ chars rest
last_kept p rest front c utf8 before last stays =
    let is = turned rest front c utf8 before last in
    ap (λ cs. reverse (without_first p cs)) is
    ∙ ap reverse (first_of (p c) (without_first p (reverse (chars front))) (c ∷ reverse (chars front)) stays ∙ sym is)
    ∙ reverse-reverse (chars rest)

pub last_gone : (p : ℕ → Bool) (rest front : List ℕ) (c : ℕ) → IsUtf8 rest → IsUtf8 front → rest ≡ front ++ encode_utf8 c → p c ≡ true
    → without_last p (chars front) ≡ without_last p (chars rest)
last_gone p rest front c utf8 before last goes =
    let is = turned rest front c utf8 before last in
    sym (ap (λ cs. reverse (without_first p cs)) is ∙ ap reverse (later_of (p c) (without_first p (reverse (chars front)))
    (c ∷ reverse (chars front)) goes))

pub shorter : (rest more : List ℕ) (c : ℕ) → rest ≡ encode_utf8 c ++ more → length more < length rest
shorter rest more c e =
    let n : length rest ≡ length (encode_utf8 c) + length more = ap length e ∙ length-append (encode_utf8 c) more in
    omega (arith, length-encode c, len_utf8_bounds c)

pub shorter_back : (rest front : List ℕ) (c : ℕ) → rest ≡ front ++ encode_utf8 c → length front < length rest
shorter_back rest front c e =
    let n : length rest ≡ length front + length (encode_utf8 c) = ap length e ∙ length-append front (encode_utf8 c) in
    omega (arith, length-encode c, len_utf8_bounds c)

-- what stands before the last character of a text, and what behind its first, where each has another name
pub before_last : (rest left before front : List ℕ) (c : ℕ) → left ≡ rest → left ≡ before ++ encode_utf8 c → front ≡ before
    → rest ≡ front ++ encode_utf8 c
before_last rest left before front c same last front_is = sym same ∙ last ∙ ap (λ bs. bs ++ encode_utf8 c) (sym front_is)

pub behind_first : (rest left behind more : List ℕ) (c : ℕ) → left ≡ rest → left ≡ encode_utf8 c ++ behind → more ≡ behind
    → rest ≡ encode_utf8 c ++ more
behind_first rest left behind more c same first more_is = sym same ∙ first ∙ ap (λ bs. encode_utf8 c ++ bs) (sym more_is)
