-- The text that is made of a token is the one that it stands for.
use Rattle.std.proofs.Common.{◌≡◌, ℕ, zero, suc, false, List, [], ◌∷◌, ◌++◌, length, take, drop, refl, sym, ap, subst, ◌∙◌, inl, inr, lit<}
use Rattle.std.proofs.Common.{Option, Some, None}
use Rattle.std.specs.Prelude.{◌==◌, encode_utf8}
use Rattle.std.proofs.Math.Seq.{drop-append_seam}
use Rattle.std.proofs.lemmas.Bool.{eqb-true, cases_Bool, not-true, not_from_false, cond-true, cond-false}
use Rattle.std.proofs.lemmas.List.{take-append-drop}
use Rattle.std.proofs.lemmas.Str.{encode_ascii}
use Rattle.syntax.specs.lexer.Bytes.{backslash}
use Rattle.syntax.specs.lexer.Escapes.{escape_at, is_character}
use Rattle.syntax.specs.lexer.Texts.{character, escaped_by, unescaped_behind, unescaped_text, NoEscape, StandsFor, nothing, itself, escape, kept}
use Rattle.syntax.proofs.Escaping.{escape_sound, escape_complete}
use Rattle.syntax.proofs.Texts.{skipped_is}

no_escape_none : (s : List ℕ) → escape_at s ≡ None → NoEscape s
no_escape_none s e code written rest parts w c = let x = ap escape_at parts ∙ escape_complete code written rest w in cc

no_escape_bad : (s : List ℕ) (code n : ℕ) → escape_at s ≡ Some (code, n) → is_character code ≡ false → NoEscape s
no_escape_bad s code n e bad other written rest parts w c =
    let x : ◌≡◌ {A = Option (ℕ × ℕ)} (Some (code, n)) (Some (other, length written)) = sym e ∙ ap escape_at parts ∙ escape_complete other written rest w in
    let p : ◌≡◌ {A = ℕ × ℕ} (code, n) (other, length written) = cc in
    let y : is_character other ≡ false = sym (ap (λ (q : ℕ × ℕ). is_character q.0) p) ∙ bad in
    cc

backslash_is : (l : List ℕ) → encode_utf8 backslash ++ l ≡ backslash ∷ l
backslash_is l = ap (λ (x : List ℕ). x ++ l) (encode_ascii backslash (lit< tt))

abbrev All : List ℕ → Type 0
All s = (skip : ℕ) → StandsFor (drop skip s) (unescaped_behind skip s)

marked_sound : (s : List ℕ) (o : Option (ℕ × ℕ)) → All s → escape_at s ≡ o → StandsFor (backslash ∷ s) (encode_utf8 (character o).0 ++ unescaped_behind (character o).1 s)
marked_sound s None all e = subst (StandsFor (backslash ∷ s)) (sym (backslash_is (unescaped_behind 0 s))) (kept s (unescaped_behind 0 s) (no_escape_none s e) (all 0))
marked_sound s (Some (code, n)) all e =
    let text : ℕ × ℕ → List ℕ = λ p. encode_utf8 p.0 ++ unescaped_behind p.1 s in
    elim (cases_Bool (is_character code)) [
      | inl y ↦ subst (StandsFor (backslash ∷ s)) (sym (ap text (cond-true (is_character code) (code, n) (backslash, 0) y)))
          (subst (λ (l : List ℕ). StandsFor (backslash ∷ l) (text (code, n))) (take-append-drop n s) (escape code (take n s) (drop n s) (unescaped_behind n s) (escape_sound s code n e) y (all n)))
      | inr x ↦ subst (StandsFor (backslash ∷ s)) (sym (ap text (cond-false (is_character code) (code, n) (backslash, 0) x) ∙ backslash_is (unescaped_behind 0 s)))
          (kept s (unescaped_behind 0 s) (no_escape_bad s code n e x) (all 0))
    ]

byte_sound : (b : ℕ) (s : List ℕ) → All s → StandsFor (b ∷ s) (unescaped_behind 0 (b ∷ s))
unfolding escaped_by
byte_sound b s all = elim (cases_Bool (b == backslash)) [
  | inl y ↦ subst (λ (x : ℕ). StandsFor (x ∷ s) (unescaped_behind 0 (x ∷ s))) (sym (eqb-true b backslash y)) (marked_sound s (escape_at s) all refl)
  | inr x ↦ subst (StandsFor (b ∷ s)) (sym (cond-false (b == backslash) _ _ x)) (itself b s (unescaped_behind 0 s) (not_from_false (b == backslash) x) (all 0))
]

all_sound : (s : List ℕ) → All s
all_sound [] zero = nothing
all_sound [] (suc skip) = nothing
all_sound (b ∷ s) zero = byte_sound b s (all_sound s)
all_sound (b ∷ s) (suc skip) = all_sound s skip

pub stands_sound : (s : List ℕ) → StandsFor s (unescaped_text s)
unfolding unescaped_text
stands_sound s = all_sound s 0

kept_is : (s : List ℕ) → NoEscape s → (o : Option (ℕ × ℕ)) → escape_at s ≡ o → character o ≡ (backslash, 0)
kept_is s none None e = refl
kept_is s none (Some (code, n)) e = elim (cases_Bool (is_character code)) [
  | inl y ↦ absurd (none code (take n s) (drop n s) (sym (take-append-drop n s)) (escape_sound s code n e) y)
  | inr x ↦ cond-false (is_character code) (code, n) (backslash, 0) x
]

behind_only : (s text : List ℕ) → StandsFor s text → unescaped_behind 0 s ≡ text
unfolding escaped_by
behind_only _ _ nothing = refl
behind_only _ _ (itself b s text h g) =
    cond-false (b == backslash) _ _ (not-true (b == backslash) h) ∙ ap (λ (l : List ℕ). b ∷ l) (behind_only s text g)
behind_only _ _ (escape code written s text e c g) =
    let p : character (escape_at (written ++ s)) ≡ (code, length written) = ap character (escape_complete code written s e) ∙ cond-true (is_character code) (code, length written) (backslash, 0) c in
    ap (λ (q : ℕ × ℕ). encode_utf8 q.0 ++ unescaped_behind q.1 (written ++ s)) p
    ∙ ap (λ (l : List ℕ). encode_utf8 code ++ l) (skipped_is (length written) (written ++ s) ∙ ap (unescaped_behind 0) (drop-append_seam written s) ∙ behind_only s text g)
behind_only _ _ (kept s text none g) =
    ap (λ (q : ℕ × ℕ). encode_utf8 q.0 ++ unescaped_behind q.1 s) (kept_is s none (escape_at s) refl) ∙ backslash_is (unescaped_behind 0 s) ∙ ap (λ (l : List ℕ). backslash ∷ l) (behind_only s text g)

pub stands_only : (s text : List ℕ) → StandsFor s text → unescaped_text s ≡ text
unfolding unescaped_text
stands_only s text g = behind_only s text g
