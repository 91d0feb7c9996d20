-- Where the first zero byte is.
use Rattle.std.proofs.Common.{◌≡◌, ℕ, ◌+◌, ◌<◌, Bool, true, false, cond, not, nat_lt, List, [], ◌∷◌, ◌++◌, take, drop, length, refl, sym, ap, subst, ◌∙◌}
use Rattle.std.proofs.Common.{arith, suc, Some, None, ◌||◌, length-append}
use Rattle.std.specs.List.{list_any, position, position_or_len}
use Rattle.std.specs.Str.{IsUtf8}
use Rattle.std.proofs.lemmas.Bool.{false≢true, lt-ltb}
use Rattle.std.proofs.lemmas.Bool.Decides.{nat_tests}
use Rattle.std.proofs.lemmas.List.{take_at, length-take-le, append_cancel_left}
use Rattle.std.proofs.lemmas.Option.{cond_some}
use Rattle.byte_devices.specs.Texts.{is_zero, IsText, BeginsWith, BeginsWithNone}

one_more : (n : ℕ) → 1 + n ≡ suc n
one_more n = omega arith

-- the bytes up to the first zero byte, that byte, and the rest
pub record Parted (bytes : List ℕ) (k : ℕ) : Type 0 where
  pub within : k < length bytes
  pub nonzero : list_any is_zero (take k bytes) ≡ false
  pub parts : bytes ≡ take k bytes ++ 0 ∷ drop (suc k) bytes

parted : (bytes : List ℕ) → position_or_len is_zero bytes < length bytes → Parted bytes (position_or_len is_zero bytes)
parted [] h = absurd (omega arith)
parted (b ∷ bytes) h = by (is_zero b) refl (parted bytes)
  where
    by : (z : Bool) → is_zero b ≡ z → (position_or_len is_zero bytes < length bytes → Parted bytes (position_or_len is_zero bytes))
        → Parted (b ∷ bytes) (position_or_len is_zero (b ∷ bytes))
    by true e more =
        let zero_is : b ≡ 0 = grind (arith, nat_tests) in
        let k : position_or_len is_zero (b ∷ bytes) ≡ 0 = ap (λ z. cond (not z) (1 + position_or_len is_zero bytes) 0) e in
        subst (Parted (b ∷ bytes)) (sym k) (record { within = omega arith; nonzero = refl; parts = ap (λ x. x ∷ bytes) zero_is })
    by false e more =
        let k : position_or_len is_zero (b ∷ bytes) ≡ suc (position_or_len is_zero bytes) = ap (λ z. cond (not z) (1 + position_or_len is_zero bytes) 0) e ∙ one_more _ in
        let less : position_or_len is_zero bytes < length bytes = omega (arith, h, k) in
        let rest : Parted bytes (position_or_len is_zero bytes) = more less in
        subst (Parted (b ∷ bytes)) (sym k) (record {
          within = omega arith;
          nonzero = ap (λ z. z || list_any is_zero (take (position_or_len is_zero bytes) bytes)) e ∙ rest.nonzero;
          parts = ap (λ x. b ∷ x) rest.parts;
        })

-- before the zero byte that ends a text there is none
zero_behind : (text rest : List ℕ) → list_any is_zero text ≡ false → position_or_len is_zero (text ++ 0 ∷ rest) ≡ length text
zero_behind [] rest h = refl
zero_behind (b ∷ text) rest h = by (is_zero b) refl (zero_behind text rest)
  where
    by : (z : Bool) → is_zero b ≡ z → (list_any is_zero text ≡ false → position_or_len is_zero (text ++ 0 ∷ rest) ≡ length text)
        → position_or_len is_zero (b ∷ (text ++ 0 ∷ rest)) ≡ length (b ∷ text)
    by true e more = absurd (false≢true (sym h ∙ ap (λ z. z || list_any is_zero text) e))
    by false e more =
        let none : list_any is_zero text ≡ false = sym (ap (λ z. z || list_any is_zero text) e) ∙ h in
        ap (λ z. cond (not z) (1 + position_or_len is_zero (text ++ 0 ∷ rest)) 0) e ∙ one_more _ ∙ ap suc (more none)

found : (bytes : List ℕ) (k : ℕ) → position is_zero bytes ≡ Some k → Parted bytes k
found bytes k h = by (nat_lt (position_or_len is_zero bytes) (length bytes)) refl
  where
    by : (z : Bool) → nat_lt (position_or_len is_zero bytes) (length bytes) ≡ z → Parted bytes k
    by true e =
        let is : position_or_len is_zero bytes ≡ k = (cond_some _ _ _ h).1 in
        subst (Parted bytes) is (parted bytes (grind (arith, nat_tests)))
    by false e = absurd (false≢true (sym e ∙ (cond_some _ _ _ h).0))

-- where a text begins the bytes, the first zero byte ends it
pub ends_at : (bytes text rest : List ℕ) → IsText text → bytes ≡ text ++ 0 ∷ rest → position is_zero bytes ≡ Some (length text)
ends_at bytes text rest t e =
    let k : position_or_len is_zero bytes ≡ length text = ap (position_or_len is_zero) e ∙ zero_behind text rest t.nonzero in
    let within : length text < length bytes = omega (arith, ap length e, length-append text (0 ∷ rest)) in
    let test : nat_lt (position_or_len is_zero bytes) (length bytes) ≡ true = ap (λ n. nat_lt n (length bytes)) k ∙ lt-ltb _ _ within in
    ap (λ z. cond z (Some (position_or_len is_zero bytes)) None) test ∙ ap (λ n. Some n) k

pub no_zero : (bytes : List ℕ) → position is_zero bytes ≡ None → BeginsWithNone bytes
no_zero bytes none text rest t e = let some = ends_at bytes text rest t e in cc

pub text_is : (bytes text : List ℕ) (k : ℕ) → position is_zero bytes ≡ Some k → text ≡ take k bytes → IsUtf8 (take k bytes) → BeginsWith bytes text
text_is bytes text k p e u =
    let f = found bytes k p in
    let long : length (take k bytes) ≡ k = length-take-le k bytes (omega (arith, f.within)) in
    let behind : suc k ≡ length text + 1 = omega (arith, ap length e, long) in
    record {
      is_text = record { utf8 = subst IsUtf8 (sym e) u; nonzero = ap (list_any is_zero) e ∙ f.nonzero };
      parts = f.parts ∙ ap (λ s. s ++ 0 ∷ drop (suc k) bytes) (sym e) ∙ ap (λ n. text ++ 0 ∷ drop n bytes) behind;
    }

pub no_text : (bytes : List ℕ) (k : ℕ) → position is_zero bytes ≡ Some k → (IsUtf8 (take k bytes) → ⊥) → BeginsWithNone bytes
no_text bytes k p u text rest t e =
    let some = ends_at bytes text rest t e in
    let same : length text ≡ k = cc in
    let is : take k bytes ≡ text = ap (take k) e ∙ take_at text (0 ∷ rest) k same in
    u (subst IsUtf8 (sym is) t.utf8)

-- a text and the zero byte that ends it are read in one way
pub cut_same : (a b rest more : List ℕ) → IsText a → IsText b → a ++ 0 ∷ rest ≡ b ++ 0 ∷ more → (a ≡ b) × (rest ≡ more)
cut_same a b rest more s t e =
    let same : length a ≡ length b = sym (zero_behind a rest s.nonzero) ∙ ap (position_or_len is_zero) e ∙ zero_behind b more t.nonzero in
    let is : a ≡ b = sym (take_at a (0 ∷ rest) (length a) refl) ∙ ap (take (length a)) e ∙ take_at b (0 ∷ more) (length a) (sym same) in
    let rests : 0 ∷ rest ≡ 0 ∷ more = append_cancel_left b (0 ∷ rest) (0 ∷ more) (ap (λ s. s ++ 0 ∷ rest) (sym is) ∙ e) in
    (is, cc)
