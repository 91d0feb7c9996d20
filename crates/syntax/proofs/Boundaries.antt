-- A source is cut between characters.
use Rattle.std.proofs.Common.{◌≡◌, ◌≢◌, ℕ, zero, suc, ◌+◌, ◌-◌, ◌≤◌, ◌<◌, Bool, true, false, List, [], ◌∷◌, length, drop, get_or, refl, sym}
use Rattle.std.proofs.Common.{ap, subst, ◌∙◌, ◌⊎◌, inl, inr, arith, lit<, Some, length-drop, length-append}
use Rattle.std.specs.Prelude.{◌==◌, ◌&&◌, not, nat_lt}
use Rattle.std.specs.Str.{IsUtf8, IsCharBoundary}
use Rattle.std.proofs.lemmas.Bool.{eqb-true, cases_Bool, or_from, not_from_false, or_parts, cond-false}
use Rattle.std.proofs.lemmas.Bool.Decides.{nat_tests}
use Rattle.std.proofs.lemmas.List.{get_or-drop, get_or_append_left, drop-drop}
use Rattle.std.proofs.lemmas.Str.{IsCharBoundary-after_ascii, IsCharBoundary-before_ascii, IsCharBoundary-end, IsCharBoundary-start}
use Rattle.std.proofs.lemmas.Str.{IsUtf8-drop}
use Rattle.syntax.specs.declared.lexer.token.TokenKind.{TokenKind}
use Rattle.syntax.specs.declared.lexer.gap.GapPart.{GapPart}
use Rattle.syntax.specs.declared.lexer.gap.GapPart.TheVariants.{Blank, Comment, Continuation}
use Rattle.syntax.specs.lexer.Bytes.{newline, hash, backslash, is_blank, continues_word}
use Rattle.syntax.specs.lexer.Lexing.{continues_line, gap, in_gap, part_after, run_length, token_at}
use Rattle.syntax.proofs.Gaps.{gap_yes, gap_no}
use Rattle.syntax.proofs.Runs.{run_le, run_passes}
use Rattle.syntax.proofs.Lexemes.{continues_ascii, token_sound, token_ascii}

newline_ascii : (b : ℕ) → (b == newline) ≡ true → b < 128
newline_ascii b e = subst (λ (x : ℕ). x < 128) (sym (eqb-true b newline e)) (lit< tt)

back_ascii : (b : ℕ) (part : GapPart) → part_after part b ≡ Blank → ((b == newline) ≡ false → part_after part b ≡ part) → part ≢ Blank → b < 128
back_ascii b part f other n = elim (cases_Bool (b == newline)) [
  | inl y ↦ newline_ascii b y
  | inr m ↦ absurd (n (sym (other m) ∙ f))
]

blank_ascii : (depth b : ℕ) → is_blank depth b ≡ true → b < 128
blank_ascii depth b t = grind (arith, nat_tests)

-- a byte of a gap that is followed by no comment and no continuation
plain_ascii : (depth : ℕ) (part : GapPart) (b : ℕ) (bs : List ℕ) → in_gap depth part b bs ≡ true → part_after part b ≡ Blank → b < 128
plain_ascii depth Blank b bs t f = elim (cases_Bool (is_blank depth b)) [
  | inl y ↦ blank_ascii depth b y
  | inr n ↦ elim (cases_Bool (b == hash)) [
    | inl y ↦ subst (λ (x : ℕ). x < 128) (sym (eqb-true b hash y)) (lit< tt)
    | inr m ↦ elim (cases_Bool (b == backslash)) [
      | inl y ↦ subst (λ (x : ℕ). x < 128) (sym (eqb-true b backslash y)) (lit< tt)
      | inr o ↦ absurd (let e = or_from (is_blank depth b) _ n (or_from (b == hash) _ m (ap (λ (x : Bool). x && continues_line false bs) o)) in cc)
    ]
  ]
]
plain_ascii depth Comment b bs t f = back_ascii b Comment f (λ n. cond-false (b == newline) _ _ n) (λ e. cc)
plain_ascii depth Continuation b bs t f = back_ascii b Continuation f (λ n. cond-false (b == newline) _ _ n) (λ e. cc)

-- the byte behind a part of a gap that is not at its end
stop_ascii : (depth : ℕ) (part : GapPart) (b : ℕ) (bs : List ℕ) → part ≢ Blank → in_gap depth part b bs ≡ false → b < 128
stop_ascii depth Blank b bs n f = absurd (n refl)
stop_ascii depth Comment b bs n f = elim (cases_Bool (b == newline)) [
  | inl y ↦ newline_ascii b y
  | inr m ↦ absurd (let e = (or_parts (not (b == newline)) (nat_lt 0 depth) f).0 in let u = not_from_false (b == newline) m in cc)
]
stop_ascii depth Continuation b bs n f = absurd cc

cases_part : (part : GapPart) → (part ≡ Blank) ⊎ (part ≢ Blank)
cases_part Blank = inl refl
cases_part Comment = inr (λ e. cc)
cases_part Continuation = inr (λ e. cc)

here_is : (bs : List ℕ) (i b : ℕ) (rest : List ℕ) → drop i bs ≡ b ∷ rest → (get_or bs i 0 ≡ b) × (i < length bs)
here_is bs i b rest e = (sym (get_or-drop-zero bs i) ∙ ap (λ (l : List ℕ). get_or l 0 0) e, omega (arith, ap length e, length-drop i bs))
  where
    get_or-drop-zero : (bs : List ℕ) (i : ℕ) → get_or (drop i bs) 0 0 ≡ get_or bs i 0
    get_or-drop-zero bs i = get_or-drop i bs 0 0 ∙ ap (λ (n : ℕ). get_or bs n 0) (omega arith)

next_drop : (bs : List ℕ) (i b : ℕ) (rest : List ℕ) → drop i bs ≡ b ∷ rest → drop (i + 1) bs ≡ rest
next_drop bs i b rest e = sym (drop-drop 1 i bs) ∙ ap (λ (l : List ℕ). drop 1 l) e

pub gap_cut : (bs : List ℕ) → IsUtf8 bs → (depth : ℕ) (part : GapPart) (i : ℕ) (s : List ℕ) → drop i bs ≡ s → i ≤ length bs → (part ≡ Blank → IsCharBoundary bs i) → IsCharBoundary bs (i + gap depth part s)
gap_cut bs utf8 depth part i [] e le h = subst (IsCharBoundary bs) (omega (arith, ap length e, length-drop i bs)) (IsCharBoundary-end bs)
gap_cut bs utf8 depth part i (b ∷ rest) e le h =
    let at = here_is bs i b rest e in
    elim (cases_Bool (in_gap depth part b rest)) [
      | inl t ↦ subst (IsCharBoundary bs) (let q : (i + 1) + gap depth (part_after part b) rest ≡ i + gap depth part (b ∷ rest) = omega (arith, gap_yes depth part b rest t) in q)
          (gap_cut bs utf8 depth (part_after part b) (i + 1) rest (next_drop bs i b rest e) (omega (arith, at.1))
          (λ f. IsCharBoundary-after_ascii bs i utf8 at.1 (subst (λ (x : ℕ). x < 128) (sym at.0) (plain_ascii depth part b rest t f))))
      | inr n ↦ subst (IsCharBoundary bs) (let q : i ≡ i + gap depth part (b ∷ rest) = omega (arith, gap_no depth part b rest n) in q) (elim (cases_part part) [
        | inl y ↦ h y
        | inr m ↦ IsCharBoundary-before_ascii bs i at.1 (subst (λ (x : ℕ). x < 128) (sym at.0) (stop_ascii depth part b rest m n))
      ])
    ]

-- where a gap ends
pub gap_boundary : (bs : List ℕ) (depth n : ℕ) → IsUtf8 bs → n ≡ gap depth Blank bs → IsCharBoundary bs n
gap_boundary bs depth n utf8 e =
    subst (IsCharBoundary bs) (let q : 0 + gap depth Blank bs ≡ n = omega (arith, e) in q)
    (gap_cut bs utf8 depth Blank 0 bs refl (omega arith) (λ f. IsCharBoundary-start bs utf8))

-- what stands behind a gap
pub after_gap : (bs rest : List ℕ) (depth n : ℕ) → IsUtf8 bs → n ≡ gap depth Blank bs → rest ≡ drop n bs → IsUtf8 rest
after_gap bs rest depth n utf8 e r = subst IsUtf8 (sym r) (IsUtf8-drop bs n utf8 (gap_boundary bs depth n utf8 e))

-- where a word ends
pub word_boundary : (bs : List ℕ) (n : ℕ) → IsUtf8 bs → n ≡ run_length continues_word bs → IsCharBoundary bs n
word_boundary bs zero utf8 e = IsCharBoundary-start bs utf8
word_boundary bs (suc n) utf8 e =
    let passes = run_passes continues_word bs n (omega (arith, e)) in
    subst (IsCharBoundary bs) (let q : n + 1 ≡ suc n = omega arith in q)
    (IsCharBoundary-after_ascii bs n utf8 (omega (arith, e, run_le continues_word bs)) (continues_ascii (get_or bs n 0) passes))

-- where a token ends
pub token_boundary : (bs : List ℕ) (k : TokenKind) (n : ℕ) → IsUtf8 bs → token_at bs ≡ Some (k, n) → IsCharBoundary bs n
token_boundary bs k n utf8 e =
    let f = token_sound bs k n e in
    let within : n - 1 < length bs = omega (arith, f.size, f.some, ap length f.parts, length-append f.text f.rest) in
    let last : get_or bs (n - 1) 0 ≡ get_or f.text (length f.text - 1) 0 =
    ap (λ (m : ℕ). get_or bs (m - 1) 0) f.size ∙ ap (λ (l : List ℕ). get_or l (length f.text - 1) 0) f.parts
    ∙ get_or_append_left f.text f.rest 0 (length f.text - 1) (omega (arith, f.size, f.some)) in
    subst (IsCharBoundary bs) (let q : (n - 1) + 1 ≡ n = omega (arith, f.some) in q)
    (IsCharBoundary-after_ascii bs (n - 1) utf8 within (subst (λ (x : ℕ). x < 128) (sym last) (token_ascii k f.text f.rest f.token)))
