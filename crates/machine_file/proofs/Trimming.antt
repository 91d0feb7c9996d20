-- Texts without blanks at their ends, by index.
use Rattle.std.proofs.Common.{◌≡◌, ℕ, suc, ◌+◌, ◌-◌, ◌<◌, ◌≤◌, Bool, true, false, List, [], ◌∷◌, ◌++◌, length, take, drop, get_or, refl}
use Rattle.std.proofs.Common.{sym, ap, ◌∙◌, arith, if◌then◌else◌, add-one}
use Rattle.std.proofs.lemmas.Bool.Decides.{nat_tests}
use Rattle.std.proofs.Math.Seq.{drop-cons, take-suc}
use Rattle.std.specs.Str.{IsUtf8, IsCharBoundary}
use Rattle.std.proofs.lemmas.Str.{IsCharBoundary-after_ascii, IsCharBoundary-before_ascii}
use Rattle.machine_file.specs.declared.text.Blanks.{Blanks}
use Rattle.machine_file.specs.declared.text.Blanks.TheVariants as blanks
use Rattle.machine_file.specs.Texts.{is_blank, from_word, text_with_byte, to_word}

if_true : {A : Type 0} (b : Bool) (x y : A) → b ≡ true → (if b then x else y) ≡ x
if_true b x y e = rw e refl

if_false : {A : Type 0} (b : Bool) (x y : A) → b ≡ false → (if b then x else y) ≡ y
if_false b x y e = rw e refl

pub blank_ascii : (w : Blanks) (b : ℕ) → is_blank w b ≡ true → b < 128
blank_ascii blanks.Spaces b t = grind (arith, nat_tests)
blank_ascii blanks.All b t = grind (arith, nat_tests)

at_index : (text : List ℕ) (i : ℕ) → i < length text → drop i text ≡ get_or text i 0 ∷ drop (i + 1) text
at_index text i l = drop-cons text i 0 l ∙ ap (λ n. get_or text i 0 ∷ drop n text) (sym (add-one i))

pub from_blank : (w : Blanks) (text : List ℕ) (i : ℕ) → i < length text → is_blank w (get_or text i 0) ≡ true
    → from_word w (drop (i + 1) text) ≡ from_word w (drop i text)
from_blank w text i l t = sym (ap (from_word w) (at_index text i l) ∙ if_true _ _ _ t)

pub start_after : (w : Blanks) (text : List ℕ) (i : ℕ) → IsUtf8 text → i < length text → is_blank w (get_or text i 0) ≡ true
    → IsCharBoundary text (i + 1)
start_after w text i u l t = IsCharBoundary-after_ascii text i u l (blank_ascii w (get_or text i 0) t)

to_blank : (w : Blanks) (xs : List ℕ) (b : ℕ) → is_blank w b ≡ true → to_word w (xs ++ b ∷ []) ≡ to_word w xs
to_blank w [] b t = if_true _ _ _ t
to_blank w (x ∷ xs) b t = ap (text_with_byte w x) (to_blank w xs b t)

kept_some : (w : Blanks) (x : ℕ) (xs : List ℕ) (b : ℕ) → text_with_byte w x (xs ++ b ∷ []) ≡ x ∷ (xs ++ b ∷ [])
kept_some w x [] b = refl
kept_some w x (y ∷ ys) b = refl

to_other : (w : Blanks) (xs : List ℕ) (b : ℕ) → is_blank w b ≡ false → to_word w (xs ++ b ∷ []) ≡ xs ++ b ∷ []
to_other w [] b f = if_false _ _ _ f
to_other w (x ∷ xs) b f = ap (text_with_byte w x) (to_other w xs b f) ∙ kept_some w x xs b

last_index : (text : List ℕ) (i : ℕ) → 0 < i → i ≤ length text → take i text ≡ take (i - 1) text ++ (get_or text (i - 1) 0 ∷ [])
last_index text i p l = let e : i ≡ suc (i - 1) = omega arith in ap (λ n. take n text) e ∙ take-suc text (i - 1) 0 (omega arith)

pub to_less : (w : Blanks) (text : List ℕ) (i : ℕ) → 0 < i → i ≤ length text → is_blank w (get_or text (i - 1) 0) ≡ true
    → to_word w (take (i - 1) text) ≡ to_word w (take i text)
to_less w text i p l t = sym (ap (to_word w) (last_index text i p l) ∙ to_blank w (take (i - 1) text) _ t)

pub to_same : (w : Blanks) (text : List ℕ) (i : ℕ) → 0 < i → i ≤ length text → is_blank w (get_or text (i - 1) 0) ≡ false
    → to_word w (take i text) ≡ take i text
to_same w text i p l f = ap (to_word w) (last_index text i p l) ∙ to_other w (take (i - 1) text) _ f ∙ sym (last_index text i p l)

pub to_start : (w : Blanks) (text : List ℕ) (i : ℕ) → i ≤ 0 → to_word w (take i text) ≡ take i text
to_start w text i z = let e : i ≡ 0 = omega arith in ap (λ n. to_word w (take n text)) e ∙ sym (ap (λ n. take n text) e)

pub end_before : (w : Blanks) (text : List ℕ) (i : ℕ) → 0 < i → i ≤ length text → is_blank w (get_or text (i - 1) 0) ≡ true
    → IsCharBoundary text (i - 1)
end_before w text i p l t = IsCharBoundary-before_ascii text (i - 1) (omega arith) (blank_ascii w (get_or text (i - 1) 0) t)
