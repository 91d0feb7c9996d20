-- What the characters of a string stand for.
use Rattle.std.proofs.Common.{◌≡◌, ℕ, zero, suc, ◌+◌, ◌-◌, ◌*◌, ◌≤◌, ◌<◌, Bool, true, false, List, [], ◌∷◌, ◌++◌, length, take, drop}
use Rattle.std.proofs.Common.{get_or, refl, sym, ap, subst, ◌∙◌, inl, inr, arith, lit<, Option, Some, None, append_assoc, length-drop}
use Rattle.std.specs.Prelude.{◌==◌, not, encode_utf8}
use Rattle.std.specs.Char.{is_digit, digit_value, InScalarRange, OutOfScalarRange}
use Rattle.std.specs.List.{list_all}
use Rattle.std.specs.Str.{IsUtf8, IsCharBoundary}
use Rattle.std.proofs.lemmas.Bool.{eqb-true, eq-eqb, cases_Bool, not-true, cond-true, cond-false}
use Rattle.std.proofs.lemmas.Bool.Decides.{nat_tests}
use Rattle.std.proofs.lemmas.List.{take-append-drop, append-nil, take_all, drop_all}
use Rattle.std.proofs.lemmas.Str.{IsCharBoundary-after_ascii, IsCharBoundary-before_ascii, IsCharBoundary-end, IsCharBoundary-start}
use Rattle.syntax.specs.lexer.Bytes.{backslash}
use Rattle.syntax.specs.lexer.Escapes.{digit_count, control, hexadecimal, octal, escape_of_size, named_escape, escape_at, is_character}
use Rattle.syntax.specs.lexer.Lexing.{run_length}
use Rattle.syntax.specs.lexer.Numbers.{is_octal_digit}
use Rattle.syntax.specs.lexer.Texts.{character, escaped_by, is_no_backslash, unescaped_behind, unescaped_text}
use Rattle.syntax.proofs.Runs.{run_step, run_stop, run_le, run_all, all_first}

-- ---- what a backslash stands for

pub escaped_itself : (s : List ℕ) → escape_at s ≡ None → escaped_by s ≡ (backslash, 0)
unfolding escaped_by
escaped_itself s e = ap character e

character_true : (code : ℕ) → InScalarRange code → is_character code ≡ true
character_true code h = grind (arith, nat_tests)

character_false : (code : ℕ) → OutOfScalarRange code → is_character code ≡ false
character_false code h = grind (arith, nat_tests)

pub escaped_named : (s : List ℕ) (code n : ℕ) → escape_at s ≡ Some (code, n) → InScalarRange code → escaped_by s ≡ (code, n)
unfolding escaped_by
escaped_named s code n e h = ap character e ∙ cond-true (is_character code) _ _ (character_true code h)

pub escaped_unnamed : (s : List ℕ) (code n : ℕ) → escape_at s ≡ Some (code, n) → OutOfScalarRange code → escaped_by s ≡ (backslash, 0)
unfolding escaped_by
escaped_unnamed s code n e h = ap character e ∙ cond-false (is_character code) _ _ (character_false code h)

-- ---- where an escape ends

-- so many bytes of ASCII are at the front
pub record Ends (s : List ℕ) (n : ℕ) : Type 0 where
  pub within : n ≤ length s
  pub last : 0 < n → get_or s (n - 1) 0 < 128

ends_none : (s : List ℕ) → Ends s 0
ends_none s = record { within = omega arith; last = λ lt. absurd (omega arith) }

ends_more : (b : ℕ) (s : List ℕ) (n : ℕ) → b < 128 → Ends s n → Ends (b ∷ s) (suc n)
ends_more b s zero lt e = record { within = omega arith; last = λ some. lt }
ends_more b s (suc n) lt e = record { within = omega (arith, e.within); last = λ some. subst (λ (m : ℕ). get_or (b ∷ s) m 0 < 128) (let q : suc n ≡ suc (suc n) - 1 = omega arith in q) (subst (λ (m : ℕ). get_or s m 0 < 128) (let q : suc n - 1 ≡ n = omega arith in q) (e.last (omega arith))) }

hex_ascii : (b : ℕ) → is_digit b 16 ≡ true → b < 128
hex_ascii b h = grind (arith, nat_tests)

octal_ascii : (b : ℕ) → is_octal_digit b ≡ true → b < 128
octal_ascii b h = grind (arith, nat_tests)

pub hex_ends : (n value : ℕ) (s : List ℕ) (code : ℕ) → hexadecimal n value s ≡ Some code → Ends s n
hex_ends zero value s code e = ends_none s
hex_ends (suc n) value [] code e = absurd cc
hex_ends (suc n) value (b ∷ s) code e = elim (cases_Bool (is_digit b 16)) [
  | inl y ↦ ends_more b s n (hex_ascii b y) (hex_ends n (16 * value + digit_value b) s code (sym (cond-true (is_digit b 16) _ _ y) ∙ e))
  | inr x ↦ absurd (let w : hexadecimal (suc n) value (b ∷ s) ≡ None = cond-false (is_digit b 16) _ _ x in cc)
]

octal_ends : (n value size : ℕ) (s : List ℕ) → (k : ℕ) × ((octal n value size s).1 ≡ size + k) × Ends s k
octal_ends zero value size s = (0, omega arith, ends_none s)
octal_ends (suc n) value size [] = (0, omega arith, ends_none [])
octal_ends (suc n) value size (b ∷ s) = elim (cases_Bool (is_octal_digit b)) [
  | inl y ↦
      let ih = octal_ends n (8 * value + digit_value b) (size + 1) s in
      let e : octal (suc n) value size (b ∷ s) ≡ octal n (8 * value + digit_value b) (size + 1) s = cond-true (is_octal_digit b) _ _ y in
      (suc ih.0, omega (arith, ap (λ (p : ℕ × ℕ). p.1) e, ih.1), ends_more b s ih.0 (octal_ascii b y) ih.2)
  | inr x ↦
      let e : octal (suc n) value size (b ∷ s) ≡ (value, size) = cond-false (is_octal_digit b) _ _ x in
      (0, omega (arith, ap (λ (p : ℕ × ℕ). p.1) e), ends_none (b ∷ s))
]

pub sized_some : (n : ℕ) (o : Option ℕ) (code size : ℕ) → escape_of_size n o ≡ Some (code, size) → (o ≡ Some code) × (n ≡ size)
sized_some n None code size e = absurd cc
sized_some n (Some c) code size e = let p : ◌≡◌ {A = ℕ × ℕ} (c, n) (code, size) = cc in (ap (λ (q : ℕ × ℕ). Some q.0) p, ap (λ (q : ℕ × ℕ). q.1) p)

control_ascii : (b code : ℕ) → control b ≡ Some code → b < 128
control_ascii b code e = grind (arith, nat_tests)

digits_ascii : (b n : ℕ) → digit_count b ≡ Some n → b < 128
digits_ascii b n e = grind (arith, nat_tests)

named_ends : (b : ℕ) (o : Option ℕ) (s : List ℕ) (code size : ℕ) → digit_count b ≡ o → named_escape b o s ≡ Some (code, size) → Ends (b ∷ s) size
named_ends b None s code size d e =
    let w = sized_some 1 (control b) code size e in
    subst (Ends (b ∷ s)) w.1 (ends_more b s 0 (control_ascii b code w.0) (ends_none s))
named_ends b (Some n) s code size d e =
    let w = sized_some (n + 1) (hexadecimal n 0 s) code size e in
    subst (Ends (b ∷ s)) (let q : suc n ≡ size = omega (arith, w.1) in q) (ends_more b s n (digits_ascii b n d) (hex_ends n 0 s code w.0))

escape_ends : (s : List ℕ) (code size : ℕ) → escape_at s ≡ Some (code, size) → Ends s size
unfolding escape_at
escape_ends [] code size e = absurd cc
escape_ends (b ∷ s) code size e = elim (cases_Bool (is_octal_digit b)) [
  | inl y ↦
      let w = octal_ends 3 0 0 (b ∷ s) in
      let f : ◌≡◌ {A = Option (ℕ × ℕ)} (Some (octal 3 0 0 (b ∷ s))) (Some (code, size)) = sym (cond-true (is_octal_digit b) _ _ y) ∙ e in
      let p : octal 3 0 0 (b ∷ s) ≡ (code, size) = cc in
      subst (Ends (b ∷ s)) (let q : w.0 ≡ size = omega (arith, w.1, ap (λ (r : ℕ × ℕ). r.1) p) in q) w.2
  | inr x ↦ named_ends b (digit_count b) s code size refl (sym (cond-false (is_octal_digit b) _ _ x) ∙ e)
]

character_ends : (s : List ℕ) (o : Option (ℕ × ℕ)) → escape_at s ≡ o → Ends s (character o).1
character_ends s None e = ends_none s
character_ends s (Some (code, n)) e = elim (cases_Bool (is_character code)) [
  | inl y ↦
      subst (Ends s) (sym (ap (λ (p : ℕ × ℕ). p.1) (cond-true (is_character code) (code, n) (backslash, 0) y))) (escape_ends s code n e)
  | inr x ↦ subst (Ends s) (sym (ap (λ (p : ℕ × ℕ). p.1) (cond-false (is_character code) (code, n) (backslash, 0) x))) (ends_none s)
]

pub escaped_ends : (s : List ℕ) → Ends s (escaped_by s).1
unfolding escaped_by
escaped_ends s = character_ends s (escape_at s) refl

-- ---- where the text may be cut

pub escape_boundary : (s : List ℕ) (n : ℕ) → IsUtf8 s → n ≡ (escaped_by s).1 → IsCharBoundary s n
escape_boundary s zero utf8 e = IsCharBoundary-start s utf8
escape_boundary s (suc n) utf8 e =
    let w : Ends s (suc n) = subst (Ends s) (sym e) (escaped_ends s) in
    subst (IsCharBoundary s) (let q : n + 1 ≡ suc n = omega arith in q)
    (IsCharBoundary-after_ascii s n utf8 (omega (arith, w.within)) (subst (λ (m : ℕ). get_or s m 0 < 128) (let q : suc n - 1 ≡ n = omega arith in q) (w.last (omega arith))))

-- what comes behind the bytes that stand for themselves
pub stops_at : (s : List ℕ) → 0 < length (drop (run_length is_no_backslash s) s) → get_or (drop (run_length is_no_backslash s) s) 0 0 ≡ backslash
stops_at [] lt = absurd (omega arith)
stops_at (b ∷ s) lt = elim (cases_Bool (is_no_backslash b)) [
  | inl y ↦
      let e = run_step is_no_backslash b s y in
      ap (λ (n : ℕ). get_or (drop n (b ∷ s)) 0 0) e ∙ stops_at s (omega (arith, ap (λ (n : ℕ). length (drop n (b ∷ s))) e))
  | inr x ↦ ap (λ (n : ℕ). get_or (drop n (b ∷ s)) 0 0) (run_stop is_no_backslash b s x) ∙ eqb-true b backslash (twice (b == backslash) x)
]
  where
    twice : (t : Bool) → not t ≡ false → t ≡ true
    twice true e = refl
    twice false e = absurd cc

pub plain_boundary : (s : List ℕ) (n : ℕ) → IsUtf8 s → n ≡ run_length is_no_backslash s → IsCharBoundary s n
plain_boundary s n utf8 e = go (drop n s) refl
  where
    get_first : (s : List ℕ) (n b : ℕ) (more : List ℕ) → drop n s ≡ b ∷ more → get_or s n 0 ≡ b
    get_first [] zero b more e = absurd cc
    get_first [] (suc n) b more e = absurd cc
    get_first (a ∷ s) zero b more e = ap (λ (l : List ℕ). get_or l 0 0) e
    get_first (a ∷ s) (suc n) b more e = get_first s n b more e

    go : (l : List ℕ) → drop n s ≡ l → IsCharBoundary s n
    go [] h = subst (IsCharBoundary s) (let q : length s ≡ n = omega (arith, ap length h, length-drop n s, run_le is_no_backslash s, e) in q) (IsCharBoundary-end s)
    go (b ∷ more) h =
        let first : b ≡ backslash = sym (ap (λ (l : List ℕ). get_or l 0 0) h) ∙ ap (λ (m : ℕ). get_or (drop m s) 0 0) e ∙ stops_at s (omega (arith, ap length h, ap (λ (m : ℕ). length (drop m s)) e)) in
        IsCharBoundary-before_ascii s n (omega (arith, ap length h, length-drop n s)) (subst (λ (x : ℕ). x < 128) (sym (get_first s n b more h ∙ first)) (lit< tt))

-- ---- the loop

plain_is : (text more : List ℕ) → list_all is_no_backslash text ≡ true → unescaped_behind 0 (text ++ more) ≡ text ++ unescaped_behind 0 more
plain_is [] more h = refl
plain_is (b ∷ text) more h =
    let w = all_first is_no_backslash b text h in cond-false (b == backslash) _ _ (not-true (b == backslash) w.0) ∙ ap (λ (l : List ℕ). b ∷ l) (plain_is text more w.1)

pub skipped_is : (n : ℕ) (s : List ℕ) → unescaped_behind n s ≡ unescaped_behind 0 (drop n s)
skipped_is zero s = refl
skipped_is (suc n) [] = refl
skipped_is (suc n) (b ∷ s) = skipped_is n s

split_plain : (rest : List ℕ) (n : ℕ) → n ≡ run_length is_no_backslash rest → unescaped_behind 0 rest ≡ take n rest ++ unescaped_behind 0 (drop n rest)
split_plain rest n e =
    ap (unescaped_behind 0) (sym (take-append-drop n rest))
    ∙ plain_is (take n rest) (drop n rest) (subst (λ (m : ℕ). list_all is_no_backslash (take m rest) ≡ true) (sym e) (run_all is_no_backslash rest))

marked_is : (s : List ℕ) → 0 < length s → get_or s 0 0 ≡ backslash → unescaped_behind 0 s ≡ encode_utf8 (escaped_by (drop 1 s)).0 ++ unescaped_behind 0 (drop (escaped_by (drop 1 s)).1 (drop 1 s))
marked_is [] lt e = absurd (omega arith)
marked_is (b ∷ s) lt e =
    cond-true (b == backslash) _ _ (eq-eqb b backslash e)
    ∙ ap (λ (l : List ℕ). encode_utf8 (escaped_by s).0 ++ l) (skipped_is (escaped_by s).1 s)

-- The text is what was made of the bytes before `rest`, and what `rest` stands for.
abbrev pub StillUnescapes : List ℕ → List ℕ → List ℕ → Type 0
StillUnescapes text whole rest = whole ++ unescaped_behind 0 rest ≡ unescaped_text text

pub still_first : (text : List ℕ) → StillUnescapes text [] text
unfolding unescaped_text
still_first text = refl

pub still_end : (text whole rest plain marked : List ℕ) (n : ℕ) → StillUnescapes text whole rest → n ≡ run_length is_no_backslash rest → plain ≡ take n rest → marked ≡ drop n rest → length marked ≡ 0
    → whole ++ plain ≡ unescaped_text text
still_end text whole rest plain marked n still size plain_is marked_is none =
    let nothing : drop n rest ≡ [] = sym marked_is ∙ empty marked none in
    let all : unescaped_behind 0 rest ≡ plain = split_plain rest n size ∙ ap (λ (l : List ℕ). take n rest ++ unescaped_behind 0 l) nothing ∙ append-nil (take n rest) ∙ sym plain_is in
    ap (λ (l : List ℕ). whole ++ l) (sym all) ∙ still
  where
    empty : (s : List ℕ) → length s ≡ 0 → s ≡ []
    empty [] e = refl
    empty (b ∷ s) e = absurd (omega arith)

-- a text without a backslash stands for itself
pub plain_whole : (text : List ℕ) → run_length is_no_backslash text ≡ length text → text ≡ unescaped_text text
plain_whole text all =
    still_end text [] text text [] (length text) (still_first text) (sym all) (sym (take_all (length text) text (omega arith)))
    (sym (drop_all (length text) text (omega arith))) refl

pub still_more : (text whole rest plain marked behind after : List ℕ) (c size n : ℕ) → StillUnescapes text whole rest → n ≡ run_length is_no_backslash rest → plain ≡ take n rest → marked ≡ drop n rest → (length marked ≡ 0 → ⊥)
    → behind ≡ drop 1 marked → (c, size) ≡ escaped_by behind → after ≡ drop size behind → StillUnescapes text ((whole ++ plain) ++ encode_utf8 c) after
still_more text whole rest plain marked behind after c size n still run_is plain_is_ marked_at some behind_is escape after_is =
    let first : get_or marked 0 0 ≡ backslash =
    ap (λ (l : List ℕ). get_or l 0 0) marked_at ∙ ap (λ (m : ℕ). get_or (drop m rest) 0 0) run_is
    ∙ stops_at rest (omega (arith, some, ap length marked_at, ap (λ (m : ℕ). length (drop m rest)) run_is)) in
    let made : unescaped_behind 0 marked ≡ encode_utf8 c ++ unescaped_behind 0 after =
    marked_is marked (omega (arith, some)) first ∙ ap (λ (l : List ℕ). encode_utf8 (escaped_by l).0 ++ unescaped_behind 0 (drop (escaped_by l).1 l)) (sym behind_is)
    ∙ ap (λ (p : ℕ × ℕ). encode_utf8 p.0 ++ unescaped_behind 0 (drop p.1 behind)) (sym escape) ∙ ap (λ (l : List ℕ). encode_utf8 c ++ unescaped_behind 0 l) (sym after_is) in
    let all : unescaped_behind 0 rest ≡ plain ++ (encode_utf8 c ++ unescaped_behind 0 after) =
    split_plain rest n run_is ∙ ap (λ (l : List ℕ). l ++ unescaped_behind 0 (drop n rest)) (sym plain_is_) ∙ ap (λ (l : List ℕ). plain ++ unescaped_behind 0 l) (sym marked_at) ∙ ap (λ (l : List ℕ). plain ++ l) made in
    append_assoc (whole ++ plain) (encode_utf8 c) (unescaped_behind 0 after) ∙ append_assoc whole plain (encode_utf8 c ++ unescaped_behind 0 after) ∙ ap (λ (l : List ℕ). whole ++ l) (sym all) ∙ still

pub behind_boundary : (marked rest : List ℕ) (n : ℕ) → IsUtf8 marked → marked ≡ drop n rest → n ≡ run_length is_no_backslash rest → (length marked ≡ 0 → ⊥) → IsCharBoundary marked 1
behind_boundary marked rest n utf8 marked_at run_is some =
    let first : get_or marked 0 0 ≡ backslash =
    ap (λ (l : List ℕ). get_or l 0 0) marked_at ∙ ap (λ (m : ℕ). get_or (drop m rest) 0 0) run_is
    ∙ stops_at rest (omega (arith, some, ap length marked_at, ap (λ (m : ℕ). length (drop m rest)) run_is)) in
    IsCharBoundary-after_ascii marked 0 utf8 (omega (arith, some)) (subst (λ (x : ℕ). x < 128) (sym first) (lit< tt))

pub ruleset escaped_cases = (escaped_named, escaped_unnamed, escaped_itself)
