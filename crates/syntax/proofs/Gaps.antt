-- The gap that is counted is the gap between two tokens.
use Rattle.std.proofs.Common.{◌≡◌, ◌≢◌, ℕ, suc, ◌+◌, ◌≤◌, ◌<◌, Bool, true, false, List, [], ◌∷◌, ◌++◌, length, take, drop, get_or, refl}
use Rattle.std.proofs.Common.{sym, ap, subst, ◌∙◌, inl, inr, arith, nat_lt, append_assoc, length-append}
use Rattle.std.specs.Prelude.{◌==◌, ◌||◌, ◌&&◌, not}
use Rattle.std.specs.List.{list_all}
use Rattle.std.proofs.lemmas.Bool.{eqb-true, eq-eqb, cases_Bool, or_left, or_right, or_parts, or_from, and_from, and_parts, not-true}
use Rattle.std.proofs.lemmas.Bool.{not_from_false, ne_eqb, cond-true, cond-false}
use Rattle.std.proofs.lemmas.List.{at_drop_more, drop_all, take-append-drop}
use Rattle.syntax.specs.declared.lexer.gap.GapPart.{GapPart}
use Rattle.syntax.specs.declared.lexer.gap.GapPart.TheVariants.{Blank, Comment, Continuation}
use Rattle.syntax.specs.lexer.Bytes.{newline, hash, backslash, is_blank, in_line, is_line_rest}
use Rattle.syntax.specs.lexer.Lexing.{in_line_rest, continues_line, in_gap, part_after, gap}
use Rattle.syntax.specs.lexer.Tokens.{IsGap, nothing, blank, comment, continued, NoGap, ends_line}
use Rattle.syntax.proofs.Runs.{all_both, all_first, first_holds}

-- ---- one byte

pub gap_yes : (depth : ℕ) (part : GapPart) (b : ℕ) (bs : List ℕ) → in_gap depth part b bs ≡ true → gap depth part (b ∷ bs) ≡ suc (gap depth (part_after part b) bs)
gap_yes depth part b bs e = cond-true (in_gap depth part b bs) _ _ e

pub gap_no : (depth : ℕ) (part : GapPart) (b : ℕ) (bs : List ℕ) → in_gap depth part b bs ≡ false → gap depth part (b ∷ bs) ≡ 0
gap_no depth part b bs e = cond-false (in_gap depth part b bs) _ _ e

blank_is : (depth b c : ℕ) → is_blank depth b ≡ true → is_blank depth c ≡ false → (b == c) ≡ false
blank_is depth b c h f = elim (cases_Bool (b == c)) [
  | inl y ↦ let e = ap (is_blank depth) (eqb-true b c y) in absurd cc
  | inr n ↦ n
]

blank_after : (depth b : ℕ) → is_blank depth b ≡ true → part_after Blank b ≡ Blank
blank_after depth b h =
    cond-false (b == hash) _ _ (blank_is depth b hash h refl) ∙ cond-false (b == backslash) _ _ (blank_is depth b backslash h refl)

gap_blank : (depth b : ℕ) (bs : List ℕ) → is_blank depth b ≡ true → gap depth Blank (b ∷ bs) ≡ suc (gap depth Blank bs)
gap_blank depth b bs h =
    gap_yes depth Blank b bs (or_left (is_blank depth b) _ h) ∙ ap (λ (q : GapPart). suc (gap depth q bs)) (blank_after depth b h)

gap_hash : (depth : ℕ) (bs : List ℕ) → gap depth Blank (hash ∷ bs) ≡ suc (gap depth Comment bs)
gap_hash depth bs = refl

gap_backslash : (depth : ℕ) (bs : List ℕ) → continues_line false bs ≡ true → gap depth Blank (backslash ∷ bs) ≡ suc (gap depth Continuation bs)
gap_backslash depth bs h = gap_yes depth Blank backslash bs h

-- a newline, and another byte, in a comment
comment_newline : (depth b : ℕ) (bs : List ℕ) → (b == newline) ≡ true → in_gap depth Comment b bs ≡ nat_lt 0 depth
comment_newline depth b bs e = rw e refl

comment_other : (depth b : ℕ) (bs : List ℕ) → (b == newline) ≡ false → gap depth Comment (b ∷ bs) ≡ suc (gap depth Comment bs)
comment_other depth b bs e =
    gap_yes depth Comment b bs (or_left (not (b == newline)) _ (not_from_false (b == newline) e))
    ∙ ap (λ (q : GapPart). suc (gap depth q bs)) (cond-false (b == newline) _ _ e)

newline_blank : (depth b : ℕ) → (b == newline) ≡ true → is_blank depth b ≡ nat_lt 0 depth
newline_blank depth b e = cond-true (b == newline) _ _ e

-- and behind a backslash
line_newline : (depth b : ℕ) (bs : List ℕ) → (b == newline) ≡ true → gap depth Continuation (b ∷ bs) ≡ suc (gap depth Blank bs)
line_newline depth b bs e = ap (λ (q : GapPart). suc (gap depth q bs)) (cond-true (b == newline) _ _ e)

line_other : (depth b : ℕ) (bs : List ℕ) → (b == newline) ≡ false → gap depth Continuation (b ∷ bs) ≡ suc (gap depth Continuation bs)
line_other depth b bs e = ap (λ (q : GapPart). suc (gap depth q bs)) (cond-false (b == newline) _ _ e)

-- ---- the rest of a line that is continued

abbrev rest_of_line : Bool → List ℕ → Bool
rest_of_line true inside = list_all in_line inside
rest_of_line false inside = is_line_rest inside

continues_more : (c : Bool) (b : ℕ) (bs : List ℕ) → (b == newline) ≡ false → in_line_rest c b ≡ true → continues_line c (b ∷ bs) ≡ continues_line (c || (b == hash)) bs
continues_more c b bs e f = cond-false (b == newline) _ _ e ∙ cond-true (in_line_rest c b) _ _ f

continues_no : (c : Bool) (b : ℕ) (bs : List ℕ) → (b == newline) ≡ false → in_line_rest c b ≡ false → continues_line c (b ∷ bs) ≡ false
continues_no c b bs e f = cond-false (b == newline) _ _ e ∙ cond-false (in_line_rest c b) _ _ f

rest_more : (c : Bool) (b : ℕ) (inside : List ℕ) → (b == newline) ≡ false → in_line_rest c b ≡ true → rest_of_line (c || (b == hash)) inside ≡ true → rest_of_line c (b ∷ inside) ≡ true
rest_more true b inside other e h = all_both in_line b inside (not_from_false (b == newline) other) h
rest_more false b inside other e h = elim (cases_Bool (b == hash)) [
  | inl y ↦ cond-true (b == hash) _ _ y ∙ sym (ap (λ (t : Bool). rest_of_line t inside) y) ∙ h
  | inr n ↦ cond-false (b == hash) _ _ n ∙ and_from (is_blank 0 b) (is_line_rest inside) (first_holds (is_blank 0 b) (b == hash) e n) (sym (ap (λ (t : Bool). rest_of_line t inside) n) ∙ h)
]

record Less (c : Bool) (b : ℕ) (inside : List ℕ) : Type 0 where
  pub other : (b == newline) ≡ false
  pub first : in_line_rest c b ≡ true
  pub rest : rest_of_line (c || (b == hash)) inside ≡ true

rest_less : (c : Bool) (b : ℕ) (inside : List ℕ) → rest_of_line c (b ∷ inside) ≡ true → Less c b inside
rest_less true b inside h = let w = all_first in_line b inside h in record { other = not-true (b == newline) w.0; first = refl; rest = w.1 }
rest_less false b inside h = elim (cases_Bool (b == hash)) [
  | inl y ↦ record {
    other = subst (λ (x : ℕ). (x == newline) ≡ false) (sym (eqb-true b hash y)) refl;
    first = or_right (is_blank 0 b) (b == hash) y;
    rest = ap (λ (t : Bool). rest_of_line t inside) y ∙ sym (cond-true (b == hash) _ _ y) ∙ h;
  }
  | inr n ↦
      let h' : (is_blank 0 b && is_line_rest inside) ≡ true = sym (cond-false (b == hash) _ _ n) ∙ h in
      let bl : is_blank 0 b ≡ true = (and_parts (is_blank 0 b) (is_line_rest inside) h').0 in
      record {
        other = blank_is 0 b newline bl refl;
        first = or_left (is_blank 0 b) (b == hash) bl;
        rest = ap (λ (t : Bool). rest_of_line t inside) n ∙ (and_parts (is_blank 0 b) (is_line_rest inside) h').1;
      }
]

continues_complete : (c : Bool) (inside more : List ℕ) → rest_of_line c inside ≡ true → continues_line c (inside ++ newline ∷ more) ≡ true
continues_complete c [] more h = refl
continues_complete c (b ∷ inside) more h =
    let w = rest_less c b inside h in continues_more c b (inside ++ newline ∷ more) w.other w.first ∙ continues_complete (c || (b == hash)) inside more w.rest

line_run : (depth : ℕ) (c : Bool) (inside more : List ℕ) → rest_of_line c inside ≡ true → gap depth Continuation (inside ++ newline ∷ more) ≡ length inside + suc (gap depth Blank more)
line_run depth c [] more h = omega arith
line_run depth c (b ∷ inside) more h =
    let w = rest_less c b inside h in omega (arith, line_other depth b (inside ++ newline ∷ more) w.other, line_run depth (c || (b == hash)) inside more w.rest)

-- ---- what is counted is a gap

abbrev GapAt : ℕ → List ℕ → ℕ → Type 0
GapAt depth s n = IsGap depth (drop n s) (take n s)

abbrev CommentAt : ℕ → List ℕ → ℕ → Type 0
CommentAt depth s n = (inside : List ℕ) × (text : List ℕ) × (take n s ≡ inside ++ text) × (list_all in_line inside ≡ true) × (ends_line (text ++ drop n s) ≡ true) × IsGap depth (drop n s) text

abbrev LineAt : ℕ → Bool → List ℕ → ℕ → Type 0
LineAt depth c s n = (inside : List ℕ) × (text : List ℕ) × (take n s ≡ inside ++ newline ∷ text) × (rest_of_line c inside ≡ true) × IsGap depth (drop n s) text

abbrev LinesAt : ℕ → List ℕ → Type 0
LinesAt depth s = (c : Bool) → continues_line c s ≡ true → LineAt depth c s (gap depth Continuation s)

hash_step : (depth b : ℕ) (bs : List ℕ) (m : ℕ) → (b == hash) ≡ true → CommentAt depth bs m → GapAt depth (b ∷ bs) (suc m)
hash_step depth b bs m e h =
    subst (λ (x : ℕ). IsGap depth (drop m bs) (x ∷ take m bs)) (sym (eqb-true b hash e))
    (subst (λ (l : List ℕ). IsGap depth (drop m bs) (hash ∷ l)) (sym h.2) (comment h.0 h.1 h.3 h.4 h.5))

backslash_step : (depth b : ℕ) (bs : List ℕ) (m : ℕ) → (b == backslash) ≡ true → LineAt depth false bs m → GapAt depth (b ∷ bs) (suc m)
backslash_step depth b bs m e h =
    subst (λ (x : ℕ). IsGap depth (drop m bs) (x ∷ take m bs)) (sym (eqb-true b backslash e))
    (subst (λ (l : List ℕ). IsGap depth (drop m bs) (backslash ∷ l)) (sym h.2) (continued h.0 h.1 h.3 h.4))

gap_other : (depth b : ℕ) (bs : List ℕ) → is_blank depth b ≡ false → (b == hash) ≡ false → ((b == backslash) && continues_line false bs) ≡ false → GapAt depth (b ∷ bs) (gap depth Blank (b ∷ bs))
gap_other depth b bs e f g =
    subst (GapAt depth (b ∷ bs)) (sym (gap_no depth Blank b bs (or_from (is_blank depth b) _ e (or_from (b == hash) _ f g)))) nothing

gap_here : (depth b : ℕ) (bs : List ℕ) → GapAt depth bs (gap depth Blank bs) → CommentAt depth bs (gap depth Comment bs) → LinesAt depth bs → GapAt depth (b ∷ bs) (gap depth Blank (b ∷ bs))
gap_here depth b bs plain commented lines = elim (cases_Bool (is_blank depth b)) [
  | inl t ↦ subst (GapAt depth (b ∷ bs)) (sym (gap_blank depth b bs t)) (blank b (take (gap depth Blank bs) bs) t plain)
  | inr e ↦ elim (cases_Bool (b == hash)) [
    | inl h ↦ subst (GapAt depth (b ∷ bs)) (sym (ap (λ (x : ℕ). gap depth Blank (x ∷ bs)) (eqb-true b hash h) ∙ gap_hash depth bs)) (hash_step depth b bs (gap depth Comment bs) h commented)
    | inr f ↦ elim (cases_Bool (b == backslash)) [
      | inl h ↦ elim (cases_Bool (continues_line false bs)) [
        | inl l ↦ subst (GapAt depth (b ∷ bs)) (sym (ap (λ (x : ℕ). gap depth Blank (x ∷ bs)) (eqb-true b backslash h) ∙ gap_backslash depth bs l))
            (backslash_step depth b bs (gap depth Continuation bs) h (lines false l))
        | inr n ↦ gap_other depth b bs e f (and_false (b == backslash) (continues_line false bs) n)
      ]
      | inr n ↦ gap_other depth b bs e f (false_and (b == backslash) (continues_line false bs) n)
    ]
  ]
]
  where
    and_false : (x y : Bool) → y ≡ false → (x && y) ≡ false
    and_false true y e = e
    and_false false y e = refl

    false_and : (x y : Bool) → x ≡ false → (x && y) ≡ false
    false_and x y e = rw e refl

comment_step : (depth b : ℕ) (bs : List ℕ) → GapAt depth bs (gap depth Blank bs) → CommentAt depth bs (gap depth Comment bs) → CommentAt depth (b ∷ bs) (gap depth Comment (b ∷ bs))
comment_step depth b bs plain commented = elim (cases_Bool (b == newline)) [
  | inl nl ↦ elim (cases_Bool (nat_lt 0 depth)) [
    | inl t ↦ subst (CommentAt depth (b ∷ bs)) (sym (gap_yes depth Comment b bs (comment_newline depth b bs nl ∙ t) ∙ ap (λ (q : GapPart). suc (gap depth q bs)) (cond-true (b == newline) _ _ nl)))
        ([], b ∷ take (gap depth Blank bs) bs, refl, refl, nl, blank b (take (gap depth Blank bs) bs) (newline_blank depth b nl ∙ t) plain)
    | inr f ↦ subst (CommentAt depth (b ∷ bs)) (sym (gap_no depth Comment b bs (comment_newline depth b bs nl ∙ f))) ([], [], refl, refl, nl, nothing)
  ]
  | inr other ↦ subst (CommentAt depth (b ∷ bs)) (sym (comment_other depth b bs other))
      (b ∷ commented.0, commented.1, ap (λ (l : List ℕ). b ∷ l) commented.2, all_both in_line b commented.0 (not_from_false (b == newline) other) commented.3, commented.4, commented.5)
]

rest_none : (c : Bool) → rest_of_line c [] ≡ true
rest_none true = refl
rest_none false = refl

line_step : (depth b : ℕ) (bs : List ℕ) → GapAt depth bs (gap depth Blank bs) → LinesAt depth bs → LinesAt depth (b ∷ bs)
line_step depth b bs plain lines c h = elim (cases_Bool (b == newline)) [
  | inl nl ↦ subst (LineAt depth c (b ∷ bs)) (sym (line_newline depth b bs nl))
      ([], take (gap depth Blank bs) bs, ap (λ (x : ℕ). x ∷ take (gap depth Blank bs) bs) (eqb-true b newline nl), rest_none c, plain)
  | inr other ↦ elim (cases_Bool (in_line_rest c b)) [
    | inl t ↦
        let l = lines (c || (b == hash)) (sym (continues_more c b bs other t) ∙ h) in
        subst (LineAt depth c (b ∷ bs)) (sym (line_other depth b bs other)) (b ∷ l.0, l.1, ap (λ (x : List ℕ). b ∷ x) l.2, rest_more c b l.0 other t l.3, l.4)
    | inr n ↦ absurd (let e = continues_no c b bs other n in cc)
  ]
]

all_sound : (depth : ℕ) (s : List ℕ) → GapAt depth s (gap depth Blank s) × CommentAt depth s (gap depth Comment s) × LinesAt depth s
all_sound depth [] = (nothing, ([], [], refl, refl, refl, nothing), λ c h. absurd (no_line c h))
  where
    no_line : (c : Bool) → continues_line c [] ≡ true → ⊥
    no_line c h = cc
all_sound depth (b ∷ bs) = let ih = all_sound depth bs in (gap_here depth b bs ih.0 ih.1 ih.2, comment_step depth b bs ih.0 ih.1, line_step depth b bs ih.0 ih.2)

pub gap_sound : (depth : ℕ) (s : List ℕ) → IsGap depth (drop (gap depth Blank s) s) (take (gap depth Blank s) s)
gap_sound depth s = (all_sound depth s).0

-- ---- no gap begins where it ends

first_in : (depth : ℕ) (rest l : List ℕ) → IsGap depth rest l → (b : ℕ) (text : List ℕ) → l ≡ b ∷ text → in_gap depth Blank b (text ++ rest) ≡ true
first_in depth rest _ nothing b text e = absurd cc
first_in depth rest _ (blank c s h g) b text e =
    let same : c ≡ b = cc in or_left (is_blank depth b) _ (subst (λ (x : ℕ). is_blank depth x ≡ true) same h)
first_in depth rest _ (comment inside s l ends g) b text e = let same : hash ≡ b = cc in subst (λ (x : ℕ). in_gap depth Blank x (text ++ rest) ≡ true) same refl
first_in depth rest _ (continued inside s l g) b text e =
    let same : backslash ≡ b = cc in
    let after : inside ++ newline ∷ s ≡ text = cc in
    let all : text ++ rest ≡ inside ++ newline ∷ (s ++ rest) = ap (λ (x : List ℕ). x ++ rest) (sym after) ∙ append_assoc inside (newline ∷ s) rest in
    subst (λ (x : ℕ). in_gap depth Blank x (text ++ rest) ≡ true) same (ap (continues_line false) all ∙ continues_complete false inside (s ++ rest) l)

stops_blank : (depth : ℕ) (part : GapPart) (b : ℕ) (bs : List ℕ) → in_gap depth part b bs ≡ false → in_gap depth Blank b bs ≡ false
stops_blank depth Blank b bs e = e
stops_blank depth Comment b bs e = elim (cases_Bool (b == newline)) [
  | inl nl ↦ subst (λ (x : ℕ). in_gap depth Blank x bs ≡ false) (sym (eqb-true b newline nl)) (or_from (nat_lt 0 depth) false (sym (comment_newline depth b bs nl) ∙ e) refl)
  | inr other ↦ absurd (let t = (or_parts (not (b == newline)) (nat_lt 0 depth) e).0 in let u = not_from_false (b == newline) other in cc)
]
stops_blank depth Continuation b bs e = absurd cc

stops_here : (depth b : ℕ) (bs : List ℕ) → in_gap depth Blank b bs ≡ false → NoGap depth (b ∷ bs)
stops_here depth b bs f c text rest e g =
    let t = first_in depth rest (c ∷ text) g c text refl in
    let first : b ≡ c = cc in
    let after : bs ≡ text ++ rest = cc in
    let u : in_gap depth Blank c (text ++ rest) ≡ false = subst (λ (x : ℕ). in_gap depth Blank x (text ++ rest) ≡ false) first (subst (λ (l : List ℕ). in_gap depth Blank b l ≡ false) after f) in
    cc

pub gap_ends : (depth : ℕ) (part : GapPart) (s : List ℕ) → NoGap depth (drop (gap depth part s) s)
gap_ends depth part [] = λ b text rest e g. cc
gap_ends depth part (b ∷ bs) = elim (cases_Bool (in_gap depth part b bs)) [
  | inl t ↦ subst (λ (n : ℕ). NoGap depth (drop n (b ∷ bs))) (sym (gap_yes depth part b bs t)) (gap_ends depth (part_after part b) bs)
  | inr n ↦ subst (λ (n : ℕ). NoGap depth (drop n (b ∷ bs))) (sym (gap_no depth part b bs n)) (stops_here depth b bs (stops_blank depth part b bs n))
]

-- ---- no other gap ends at such a place

gap_none : (depth : ℕ) (rest : List ℕ) → NoGap depth rest → gap depth Blank rest ≡ 0
gap_none depth [] none = refl
gap_none depth (b ∷ bs) none = elim (cases_Bool (in_gap depth Blank b bs)) [
  | inl t ↦
      let m : ℕ = gap depth (part_after Blank b) bs in
      let g : IsGap depth (drop m bs) (b ∷ take m bs) = subst (λ (n : ℕ). IsGap depth (drop n (b ∷ bs)) (take n (b ∷ bs))) (gap_yes depth Blank b bs t) (gap_sound depth (b ∷ bs)) in
      absurd (none b (take m bs) (drop m bs) (ap (λ (l : List ℕ). b ∷ l) (sym (take-append-drop m bs))) g)
  | inr n ↦ gap_no depth Blank b bs n
]

comment_run : (depth : ℕ) (inside s : List ℕ) → list_all in_line inside ≡ true → gap depth Comment (inside ++ s) ≡ length inside + gap depth Comment s
comment_run depth [] s h = omega arith
comment_run depth (b ∷ inside) s h =
    let w = all_first in_line b inside h in
    omega (arith, comment_other depth b (inside ++ s) (not-true (b == newline) w.0), comment_run depth inside s w.1)

comment_end : (depth : ℕ) (s : List ℕ) → ends_line s ≡ true → gap depth Comment s ≡ gap depth Blank s
comment_end depth [] h = refl
comment_end depth (b ∷ bs) nl = elim (cases_Bool (nat_lt 0 depth)) [
  | inl t ↦
      gap_yes depth Comment b bs (comment_newline depth b bs nl ∙ t)
      ∙ ap (λ (q : GapPart). suc (gap depth q bs)) (cond-true (b == newline) _ _ nl)
      ∙ sym (gap_blank depth b bs (newline_blank depth b nl ∙ t))
  | inr f ↦
      let e : in_gap depth Comment b bs ≡ false = comment_newline depth b bs nl ∙ f in
      gap_no depth Comment b bs e ∙ sym (gap_no depth Blank b bs (stops_blank depth Comment b bs e))
]

pub gap_complete : (depth : ℕ) (rest text : List ℕ) → IsGap depth rest text → NoGap depth rest → gap depth Blank (text ++ rest) ≡ length text
gap_complete depth rest _ nothing e = gap_none depth rest e
gap_complete depth rest _ (blank b text h g) e = gap_blank depth b (text ++ rest) h ∙ ap suc (gap_complete depth rest text g e)
gap_complete depth rest _ (comment inside text l ends g) e =
    let ih = gap_complete depth rest text g e in
    let e2 = ap (λ (s : List ℕ). gap depth Comment s) (append_assoc inside text rest) in
    let e3 = comment_run depth inside (text ++ rest) l in
    let e4 = comment_end depth (text ++ rest) ends in
    omega (arith, gap_hash depth ((inside ++ text) ++ rest), e2, e3, e4, length-append inside text, ih)
gap_complete depth rest _ (continued inside text l g) e =
    let ih = gap_complete depth rest text g e in
    let all : (inside ++ newline ∷ text) ++ rest ≡ inside ++ newline ∷ (text ++ rest) = append_assoc inside (newline ∷ text) rest in
    let e1 = gap_backslash depth ((inside ++ newline ∷ text) ++ rest) (ap (continues_line false) all ∙ continues_complete false inside (text ++ rest) l) in
    let e2 = ap (λ (s : List ℕ). gap depth Continuation s) all in
    omega (arith, e1, e2, line_run depth false inside (text ++ rest) l, length-append inside (newline ∷ text), ih)

-- ---- the loops

pub gap_more : (depth : ℕ) (part : GapPart) (s : List ℕ) (i : ℕ) → i < length s → in_gap depth part (get_or s i 0) (drop (i + 1) s) ≡ true
    → gap depth part (drop i s) ≡ suc (gap depth (part_after part (get_or s i 0)) (drop (i + 1) s))
gap_more depth part s i lt e = at_drop_more (gap depth part) s i 0 lt ∙ gap_yes depth part (get_or s i 0) (drop (i + 1) s) e

pub gap_stop : (depth : ℕ) (part : GapPart) (s : List ℕ) (i : ℕ) → i < length s → in_gap depth part (get_or s i 0) (drop (i + 1) s) ≡ false → gap depth part (drop i s) ≡ 0
gap_stop depth part s i lt e = at_drop_more (gap depth part) s i 0 lt ∙ gap_no depth part (get_or s i 0) (drop (i + 1) s) e

pub gap_end : (depth : ℕ) (part : GapPart) (s : List ℕ) (i : ℕ) → length s ≤ i → gap depth part (drop i s) ≡ 0
gap_end depth part s i le = ap (gap depth part) (drop_all i s le)

pub line_yes : (c : Bool) (s : List ℕ) (i : ℕ) → i < length s → get_or s i 0 ≡ newline → continues_line c (drop i s) ≡ true
line_yes c s i lt e = at_drop_more (continues_line c) s i 0 lt ∙ cond-true (get_or s i 0 == newline) _ _ (eq-eqb (get_or s i 0) newline e)

pub line_more : (c : Bool) (s : List ℕ) (i : ℕ) → i < length s → get_or s i 0 ≢ newline → in_line_rest c (get_or s i 0) ≡ true → continues_line c (drop i s) ≡ continues_line (c || (get_or s i 0 == hash)) (drop (i + 1) s)
line_more c s i lt e f =
    at_drop_more (continues_line c) s i 0 lt ∙ continues_more c (get_or s i 0) (drop (i + 1) s) (ne_eqb (get_or s i 0) newline e) f

pub line_no : (c : Bool) (s : List ℕ) (i : ℕ) → i < length s → get_or s i 0 ≢ newline → in_line_rest c (get_or s i 0) ≡ false → continues_line c (drop i s) ≡ false
line_no c s i lt e f =
    at_drop_more (continues_line c) s i 0 lt ∙ continues_no c (get_or s i 0) (drop (i + 1) s) (ne_eqb (get_or s i 0) newline e) f

pub line_end : (c : Bool) (s : List ℕ) (i : ℕ) → length s ≤ i → continues_line c (drop i s) ≡ false
line_end c s i le = ap (continues_line c) (drop_all i s le)

pub ruleset line_steps = (line_yes, line_more, line_no, line_end)

pub ruleset gap_steps = (gap_more, gap_stop, gap_end)
