-- Texts cut by the methods of `str`.
use Rattle.std.proofs.Common.{◌≡◌, ◌≢◌, ℕ, suc, ◌+◌, ◌<◌, ◌≤◌, true, false, List, [], ◌∷◌, ◌++◌, length, take, drop, get_or, Option, Some}
use Rattle.std.proofs.Common.{None, refl, sym, ap, ◌∙◌, arith, if◌then◌else◌}
use Rattle.std.specs.Prelude.{MatchOption, ◌==◌}
use denote.Ref.{Bor}
use Rattle.std.specs.Str.Pattern.{RFindsChar}
use Rattle.std.proofs.lemmas.Str.Pattern.{NoCharPasses-char, drop_at_char}
use Rattle.std.proofs.lemmas.List.{take-append-drop}
use Rattle.std.specs.Option.{option_map}
use Rattle.std.proofs.lemmas.Bool.Decides.{nat_tests}
use Rattle.machine_file.specs.Texts.{with_front, before_last_byte, cut_first, or_here, cut_last}

same_byte : (c : ℕ) → (c == c) ≡ true
same_byte c = grind (arith, nat_tests)

other_byte : (a c : ℕ) → a ≢ c → (a == c) ≡ false
other_byte a c n = grind (arith, nat_tests)

if_same : {X : Type 0} (c : ℕ) (x y : X) → (if c == c then x else y) ≡ x
if_same c x y = ap (λ b. if b then x else y) (same_byte c)

if_other : {X : Type 0} (a c : ℕ) (x y : X) → a ≢ c → (if a == c then x else y) ≡ y
if_other a c x y n = ap (λ b. if b then x else y) (other_byte a c n)

pub before_last_byte-some : (c : ℕ) (front : List ℕ) → before_last_byte c (front ++ c ∷ []) ≡ Some front
before_last_byte-some c [] = if_same c (Some []) None
before_last_byte-some c (a ∷ []) = ap (option_map (λ f. a ∷ f)) (before_last_byte-some c [])
before_last_byte-some c (a ∷ b ∷ front) = ap (option_map (λ f. a ∷ f)) (before_last_byte-some c (b ∷ front))

pub before_last_byte-none : (c : ℕ) (text : List ℕ) → ((front : List ℕ) → text ≢ front ++ c ∷ []) → before_last_byte c text ≡ None
before_last_byte-none c [] h = refl
before_last_byte-none c (a ∷ []) h = if_other a c (Some []) None (λ e. h [] (ap (λ x. x ∷ []) e))
before_last_byte-none c (a ∷ b ∷ bs) h = ap (option_map (λ f. a ∷ f))
    (before_last_byte-none c (b ∷ bs) (λ front e. h (a ∷ front) (ap (λ l. a ∷ l) e)))

-- no byte is c
abbrev pub Lacks : ℕ → List ℕ → Type 0
Lacks c bs = (i : ℕ) → i < length bs → get_or bs i 0 ≢ c

lacks-head : (c b : ℕ) (bs : List ℕ) → Lacks c (b ∷ bs) → b ≢ c
lacks-head c b bs h = h 0 (omega arith)

lacks-tail : (c b : ℕ) (bs : List ℕ) → Lacks c (b ∷ bs) → Lacks c bs
lacks-tail c b bs h = λ i l. h (suc i) (omega arith)

pub cut_first-some : (c : ℕ) (front back : List ℕ) → Lacks c front → cut_first c (front ++ c ∷ back) ≡ Some (front, back)
cut_first-some c [] back h = if_same c (Some ([], back)) _
cut_first-some c (b ∷ front) back h =
    if_other b c (Some ([], front ++ c ∷ back)) _ (lacks-head c b front h)
    ∙ ap (option_map (with_front b)) (cut_first-some c front back (lacks-tail c b front h))

pub cut_first-none : (c : ℕ) (text : List ℕ) → Lacks c text → cut_first c text ≡ None
cut_first-none c [] h = refl
cut_first-none c (b ∷ bs) h = if_other b c (Some ([], bs)) _ (lacks-head c b bs h)
    ∙ ap (option_map (with_front b)) (cut_first-none c bs (lacks-tail c b bs h))

pub cut_last-none : (c : ℕ) (text : List ℕ) → Lacks c text → cut_last c text ≡ None
cut_last-none c [] h = refl
cut_last-none c (b ∷ bs) h = ap (or_here c b bs) (cut_last-none c bs (lacks-tail c b bs h))
    ∙ if_other b c (Some ([], bs)) None (lacks-head c b bs h)

pub cut_last-some : (c : ℕ) (front back : List ℕ) → Lacks c back → cut_last c (front ++ c ∷ back) ≡ Some (front, back)
cut_last-some c [] back h = ap (or_here c c back) (cut_last-none c back h) ∙ if_same c (Some ([], back)) None
cut_last-some c (b ∷ front) back h = ap (or_here c b (front ++ c ∷ back)) (cut_last-some c front back h)

-- ---- what the methods gave

pub stripped_last : (c : ℕ) (bs : List ℕ) (r : Option (Bor (List ℕ)))
    → MatchOption r ((front : List ℕ) → bs ≢ front ++ (c ∷ [])) (λ x. bs ≡ x.now ++ (c ∷ []))
    → option_map (λ t. t.now) r ≡ before_last_byte c bs
stripped_last c bs None h = sym (before_last_byte-none c bs h)
stripped_last c bs (Some x) h = sym (ap (before_last_byte c) h ∙ before_last_byte-some c x.now)

pub split_first : (c : ℕ) (bs : List ℕ) (r : Option (Bor (List ℕ) × Bor (List ℕ)))
    → MatchOption r (Lacks c bs) (λ x. (bs ≡ x.0.now ++ (c ∷ x.1.now)) × Lacks c x.0.now)
    → option_map (λ parts. (parts.0.now, parts.1.now)) r ≡ cut_first c bs
split_first c bs None h = sym (cut_first-none c bs h)
split_first c bs (Some x) h = sym (ap (cut_first c) h.0 ∙ cut_first-some c x.0.now x.1.now h.1)

pub split_last : (c : ℕ) (bs : List ℕ) (r : Option (Bor (List ℕ) × Bor (List ℕ))) → c < 128
    → MatchOption r (RFindsChar c bs None) (λ x. (i : ℕ) × (j : ℕ) × RFindsChar c bs (Some (i, j)) × (x.0.now ≡ take i bs)
    × (x.1.now ≡ drop j bs) × (i ≤ j) × (length x.0.now ≡ i) × (length x.1.now + j ≡ length bs))
    → option_map (λ parts. (parts.0.now, parts.1.now)) r ≡ cut_last c bs
split_last c bs None lt h = sym (cut_last-none c bs (λ i l. NoCharPasses-char c bs i h lt l))
split_last c bs (Some x) lt (i, j, f, front, back, le, m, n) =
    let whole : bs ≡ x.0.now ++ (c ∷ x.1.now) = sym (take-append-drop i bs) ∙ ap (λ l. take i bs ++ l) (drop_at_char c bs i j f.1 lt)
    ∙ ap (λ l. l ++ c ∷ drop j bs) (sym front) ∙ ap (λ l. x.0.now ++ c ∷ l) (sym back) in
    let none : Lacks c x.1.now = λ k l. NoCharPasses-char c x.1.now k (rw back f.0) lt l in
    sym (ap (cut_last c) whole ∙ cut_last-some c x.0.now x.1.now none)
