-- Values that are taken one after another.
use Rattle.std.proofs.Common.{◌≡◌, ℕ, ◌+◌, ◌<◌, List, [], ◌∷◌, ◌++◌, length, take, drop, get_or, true, Option, Some, None, is_some}
use Rattle.std.proofs.Common.{refl, sym, ap, ◌∙◌, map, arith, String, string_bytes}
use Rattle.std.specs.List.{fold, flat_map, slice_get}
use Rattle.std.proofs.lemmas.List.{take_more, take-append-drop, map-append, append-nil, length-map, length-take-le}
use Rattle.std.proofs.lemmas.List.Sums.{fold-append}
use Rattle.std.proofs.lemmas.Grind.{flat_map-append}
use Rattle.std.proofs.lemmas.Option.{get_or_from_slice_get, slice_get_within, slice_get-get_or}
use Rattle.std.specs.declared.alloc.Global.{Global}
use Rattle.option_values.specs.View.{strings_in}
use Rattle.options.specs.option_file.Declarations.{Declaration}
use Rattle.options.specs.Faults.{OptionFaultData}
use Rattle.options.specs.Resolves.{State, next, unless_fault}
use Rattle.options.specs.declared.fault.Origin.TheVariants.{CommandLine}
use Rattle.options.specs.Verdicts.{Verdict, of_assignment, of_words}

-- one more of the things that are taken by a step each
pub step_more : {A B C : Type 0} (step : C → B → C) (f : A → B) (s before after : C) (xs : List A) (i : ℕ) (d : A)
    → after ≡ step before (f (get_or xs i d))
    → before ≡ fold step s (map f (take i xs)) → i < length xs → after ≡ fold step s (map f (take (i + 1) xs))
step_more step f s before after xs i d e b lt =
    e ∙ ap (λ t. step t (f (get_or xs i d))) b
    ∙ sym (
    ap (λ ys. fold step s (map f ys)) (take_more xs i d lt)
    ∙ ap (fold step s) (map-append f (take i xs) (get_or xs i d ∷ []))
    ∙ fold-append step s (map f (take i xs)) (f (get_or xs i d) ∷ []))

-- one more of the things that are seen as what gives a value each
pub seen_more : {A B : Type 0} (g : A → B) (f : B → Verdict) (s before after : State) (xs : List A) (i : ℕ) (d : A)
    → after ≡ next before (f (g (get_or xs i d))) → before ≡ fold next s (map f (map g (take i xs))) → i < length xs
    → after ≡ fold next s (map f (map g (take (i + 1) xs)))
seen_more g f s before after xs i d e b lt =
    e ∙ ap (λ (t : State). next t (f (g (get_or xs i d)))) b
    ∙ sym (
    ap (λ ys. fold next s (map f (map g ys))) (take_more xs i d lt)
    ∙ ap (λ ys. fold next s (map f ys)) (map-append g (take i xs) (get_or xs i d ∷ []))
    ∙ ap (fold next s) (map-append f (map g (take i xs)) (g (get_or xs i d) ∷ []))
    ∙ fold-append next s (map f (map g (take i xs))) (f (g (get_or xs i d)) ∷ []))

-- words behind others, which are numbered on
pub of_words-append : (ds : List Declaration) (n : ℕ) (xs ys : List (List ℕ))
    → of_words ds n (xs ++ ys) ≡ of_words ds n xs ++ of_words ds (n + length xs) ys
unfolding of_words
of_words-append ds n [] ys = let e : n ≡ n + length {A = List ℕ} [] = omega arith in ap (λ k. of_words ds k ys) e
of_words-append ds n (x ∷ xs) ys =
    let e : n + 1 + length xs ≡ n + length (x ∷ xs) = omega arith in
    ap (λ vs. of_assignment ds (CommandLine n) x ∷ vs) (of_words-append ds (n + 1) xs ys
    ∙ ap (λ k. of_words ds (n + 1) xs ++ of_words ds k ys) e)

-- one more of the words
pub fold_word_at : (ds : List Declaration) (s : State) (xs : List (String Global)) (i : ℕ) (x : String Global) → i < length xs
    → x ≡ get_or xs i x
    → fold next s (of_words ds 1 (strings_in (take (i + 1) xs)))
    ≡ next (fold next s (of_words ds 1 (strings_in (take i xs)))) (of_assignment ds (CommandLine (i + 1)) (string_bytes x))
unfolding of_words
fold_word_at ds s xs i x lt e =
    let before = strings_in (take i xs) in
    let last = string_bytes (get_or xs i x) in
    ap (λ ys. fold next s (of_words ds 1 (strings_in ys))) (take_more xs i x lt)
    ∙ ap (λ ys. fold next s (of_words ds 1 ys)) (map-append string_bytes (take i xs) (get_or xs i x ∷ []))
    ∙ ap (fold next s) (of_words-append ds 1 before (last ∷ []))
    ∙ fold-append next s (of_words ds 1 before) (of_words ds (1 + length before) (last ∷ []))
    ∙ ap (λ k. next (fold next s (of_words ds 1 before)) (of_assignment ds (CommandLine k) last)) number
    ∙ ap (λ (y : String Global). next (fold next s (of_words ds 1 before)) (of_assignment ds (CommandLine (i + 1)) (string_bytes y)))
    (sym e)
  where
    number : 1 + length (strings_in (take i xs)) ≡ i + 1
    number = omega (arith, length-map (take i xs) string_bytes, length-take-le i xs (omega (arith, lt)))

-- one more of the things that give a value each
pub fold_at : {A : Type 0} (f : A → Verdict) (s : State) (xs : List A) (i : ℕ) (x : A) → i < length xs → x ≡ get_or xs i x
    → fold next s (map f (take (i + 1) xs)) ≡ next (fold next s (map f (take i xs))) (f x)
fold_at f s xs i x lt e =
    ap (λ ys. fold next s (map f ys)) (take_more xs i x lt)
    ∙ ap (fold next s) (map-append f (take i xs) (get_or xs i x ∷ []))
    ∙ fold-append next s (map f (take i xs)) (f (get_or xs i x) ∷ [])
    ∙ ap (λ y. next (fold next s (map f (take i xs))) (f y)) (sym e)

pub fold_got : {A : Type 0} (f : A → Verdict) (s : State) (xs : List A) (i : ℕ) (x : A) → Some x ≡ slice_get xs i
    → fold next s (map f (take (i + 1) xs)) ≡ next (fold next s (map f (take i xs))) (f x)
fold_got f s xs i x e = fold_at f s xs i x (slice_get_within xs i x (sym e)) (sym (get_or_from_slice_get xs i x x (sym e)))

-- one more of the things that give several values each
pub fold_all_got : {A : Type 0} (f : A → List Verdict) (s : State) (xs : List A) (i : ℕ) (x : A) → Some x ≡ slice_get xs i
    → fold next s (flat_map f (take (i + 1) xs)) ≡ fold next (fold next s (flat_map f (take i xs))) (f x)
fold_all_got f s xs i x e =
    ap (λ ys. fold next s (flat_map f ys)) (take_more xs i x (slice_get_within xs i x (sym e)))
    ∙ ap (fold next s) (flat_map-append f (take i xs) (get_or xs i x ∷ []))
    ∙ fold-append next s (flat_map f (take i xs)) (flat_map f (get_or xs i x ∷ []))
    ∙ ap (λ y. fold next (fold next s (flat_map f (take i xs))) (flat_map f (y ∷ []))) (get_or_from_slice_get xs i x x (sym e))
    ∙ one f x (fold next s (flat_map f (take i xs)))
  where
    one : {A : Type 0} (f : A → List Verdict) (x : A) (s : State) → fold next s (flat_map f (x ∷ [])) ≡ fold next s (f x)
    one f x s = ap (fold next s) (append-nil (f x))

-- there is a thing at each place below the length
pub is_there : {A B : Type 0} (xs : List A) (i : ℕ) → None ≡ slice_get xs i → i < length xs → B
is_there xs i e lt = absurd (none_some xs i e lt)
  where
    none_some : {A : Type 0} (xs : List A) (i : ℕ) → None ≡ slice_get xs i → i < length xs → ⊥
    none_some [] i e lt = omega arith
    none_some (x ∷ xs) i e lt = let h = e ∙ slice_get-get_or (x ∷ xs) i x lt in cc

-- four lists of values, one after another
pub in_turn : (s : State) (a b c d : List Verdict)
    → fold next s (a ++ (b ++ (c ++ d))) ≡ fold next (fold next (fold next (fold next s a) b) c) d
in_turn s a b c d =
    fold-append next s a (b ++ (c ++ d))
    ∙ fold-append next (fold next s a) b (c ++ d)
    ∙ fold-append next (fold next (fold next s a) b) c d

-- ---- nothing comes after a fault

pub stays_at : (fault : OptionFaultData) (s : State) (vs : List Verdict) → s.fault ≡ Some fault → fold next s vs ≡ s
unfolding next
stays_at fault s [] is = refl
stays_at fault s (v ∷ vs) is = ap (λ (o : Option OptionFaultData). fold next (unless_fault o s v) vs) is ∙ stays_at fault s vs is

stays : (s : State) (vs : List Verdict) → is_some s.fault ≡ true → fold next s vs ≡ s
stays s vs e = by s.fault refl e
  where
    by : (o : Option OptionFaultData) → s.fault ≡ o → is_some o ≡ true → fold next s vs ≡ s
    by (Some fault) is e = stays_at fault s vs is
    by None is e = absurd cc

-- what is known after a fault is what is known in the end
pub rest_stays : (s t : State) (before others : List Verdict) → t ≡ fold next s before → is_some t.fault ≡ true
    → t ≡ fold next s (before ++ others)
rest_stays s t before others e f =
    sym (stays t others f) ∙ ap (λ (x : State). fold next x others) e ∙ sym (fold-append next s before others)

pub rest_of_map : {A : Type 0} (f : A → Verdict) (s t : State) (xs : List A) (i : ℕ) → t ≡ fold next s (map f (take i xs))
    → is_some t.fault ≡ true
    → t ≡ fold next s (map f xs)
rest_of_map f s t xs i e r =
    rest_stays s t (map f (take i xs)) (map f (drop i xs)) e r
    ∙ ap (fold next s) (sym (map-append f (take i xs) (drop i xs)) ∙ ap (map f) (take-append-drop i xs))

pub rest_of_seen : {A B : Type 0} (g : A → B) (f : B → Verdict) (s t : State) (xs : List A) (i : ℕ)
    → t ≡ fold next s (map f (map g (take i xs)))
    → is_some t.fault ≡ true → t ≡ fold next s (map f (map g xs))
rest_of_seen g f s t xs i e r =
    rest_stays s t (map f (map g (take i xs))) (map f (map g (drop i xs))) e r
    ∙ ap (fold next s) (sym (map-append f (map g (take i xs)) (map g (drop i xs)))
    ∙ ap (map f) (sym (map-append g (take i xs) (drop i xs)) ∙ ap (map g) (take-append-drop i xs)))

pub rest_of_words : (ds : List Declaration) (s t : State) (xs : List (String Global)) (i : ℕ)
    → t ≡ fold next s (of_words ds 1 (strings_in (take i xs)))
    → is_some t.fault ≡ true → t ≡ fold next s (of_words ds 1 (strings_in xs))
rest_of_words ds s t xs i e r =
    let before = strings_in (take i xs) in
    rest_stays s t (of_words ds 1 before) (of_words ds (1 + length before) (strings_in (drop i xs))) e r
    ∙ ap (fold next s) (sym (of_words-append ds 1 before (strings_in (drop i xs)))
    ∙ ap (of_words ds 1) (sym (map-append string_bytes (take i xs) (drop i xs)) ∙ ap strings_in (take-append-drop i xs)))
