-- Entries, and the keys and values that they stand for.
use Rattle.std.proofs.Common.{◌≡◌, ℕ, zero, suc, ◌+◌, ◌<◌, ◌≤◌, Bool, true, false, List, [], ◌∷◌, ◌++◌, length, Option, Some, None}
use Rattle.std.proofs.Common.{option_map, cond, get_or, Bor, is_some, IfSome, bytes_eq, refl, sym, ap, ◌∙◌, arith}
use Rattle.std.specs.Prelude.{nat_lt, slice_get, slice_set, not, ◌||◌, if◌then◌else◌}
use Rattle.std.specs.List.{position, position_or_len, list_any}
use Rattle.std.proofs.lemmas.Option.{slice_get-get_or, slice_get_past}
use Rattle.std.proofs.lemmas.Bool.{ltb-true, ltb-false}
use Rattle.values.specs.Data.{Data, dictionary, item, Entries, no_entries, entry, find, entries_with, entry_count, entry_values, keys_in}
use Rattle.values.specs.Weight.{items_weight, entries_weight}
use Rattle.values.specs.View.{data_of, items_of, entries_of}
use Rattle.values.specs.declared.value.Value.{Value}
use Rattle.values.specs.declared.value.Value.TheVariants as value

pub entry_count-entries_of : (ks : List (List ℕ)) (vs : List Value) → length ks ≡ length vs → entry_count (entries_of ks vs) ≡ length vs
entry_count-entries_of [] [] fit = refl
entry_count-entries_of [] (v ∷ vs) fit = absurd (omega arith)
entry_count-entries_of (k ∷ ks) [] fit = absurd (omega arith)
entry_count-entries_of (k ∷ ks) (v ∷ vs) fit = ap suc (entry_count-entries_of ks vs (omega arith))

abbrev pub place : List ℕ → List (List ℕ) → ℕ
place q ks = position_or_len (λ k. bytes_eq q k) ks

one_found : (b : Bool) (n m : ℕ) (v : Value) (vs : List Value) (r : Option Data) → cond (not b) (1 + n) 0 < suc m → (n < m → r ≡ option_map data_of (slice_get vs n))
    → (if b then Some (data_of v) else r) ≡ option_map data_of (slice_get (v ∷ vs) (cond (not b) (1 + n) 0))
one_found true n m v vs r h later = refl
one_found false n m v vs r h later = let e : suc n ≡ 1 + n = omega arith in later (omega arith) ∙ ap (λ i. option_map data_of (slice_get (v ∷ vs) i)) e

-- what is found at a key that is there
pub find_in : (q : List ℕ) (ks : List (List ℕ)) (vs : List Value) → place q ks < length ks → find q (entries_of ks vs) ≡ option_map data_of (slice_get vs (place q ks))
find_in q [] vs h = absurd (omega arith)
find_in q (k ∷ ks) [] h = refl
find_in q (k ∷ ks) (v ∷ vs) h = one_found (bytes_eq q k) (place q ks) (length ks) v vs (find q (entries_of ks vs)) h (find_in q ks vs)

one_missing : (b : Bool) (n m : ℕ) (v : Value) (r : Option Data) → suc m ≤ cond (not b) (1 + n) 0 → (m ≤ n → r ≡ None) → (if b then Some (data_of v) else r) ≡ None
one_missing true n m v r h later = absurd (omega arith)
one_missing false n m v r h later = later (omega arith)

-- nothing is found at another key
pub find_out : (q : List ℕ) (ks : List (List ℕ)) (vs : List Value) → length ks ≤ place q ks → find q (entries_of ks vs) ≡ None
find_out q [] vs h = refl
find_out q (k ∷ ks) [] h = refl
find_out q (k ∷ ks) (v ∷ vs) h = one_missing (bytes_eq q k) (place q ks) (length ks) v (find q (entries_of ks vs)) h (find_out q ks vs)

one_put : (b : Bool) (n m : ℕ) (q : List ℕ) (k : List ℕ) (w v : Value) (ks : List (List ℕ)) (vs : List Value) → cond (not b) (1 + n) 0 < suc m
    → (n < m → entries_of ks (slice_set vs n w) ≡ entries_with q (data_of w) (entries_of ks vs))
    → entries_of (k ∷ ks) (slice_set (v ∷ vs) (cond (not b) (1 + n) 0) w) ≡ (if b then entry k (data_of w) (entries_of ks vs) else entry k (data_of v) (entries_with q (data_of w) (entries_of ks vs)))
one_put true n m q k w v ks vs h later = refl
one_put false n m q k w v ks vs h later =
    let e : 1 + n ≡ suc n = omega arith in
    ap (λ i. entries_of (k ∷ ks) (slice_set (v ∷ vs) i w)) e ∙ ap (entry k (data_of v)) (later (omega arith))

-- a value written at the place of its key
pub put_in : (q : List ℕ) (w : Value) (ks : List (List ℕ)) (vs : List Value) → length ks ≡ length vs → place q ks < length ks → entries_of ks (slice_set vs (place q ks) w) ≡ entries_with q (data_of w) (entries_of ks vs)
put_in q w [] vs fit h = absurd (omega arith)
put_in q w (k ∷ ks) [] fit h = absurd (omega arith)
put_in q w (k ∷ ks) (v ∷ vs) fit h = one_put (bytes_eq q k) (place q ks) (length ks) q k w v ks vs h (put_in q w ks vs (omega arith))

one_new : (b : Bool) (n m : ℕ) (q : List ℕ) (k : List ℕ) (w v : Value) (x y : Entries) → suc m ≤ cond (not b) (1 + n) 0 → (m ≤ n → x ≡ entries_with q (data_of w) y)
    → entry k (data_of v) x ≡ (if b then entry k (data_of w) y else entry k (data_of v) (entries_with q (data_of w) y))
one_new true n m q k w v x y h later = absurd (omega arith)
one_new false n m q k w v x y h later = ap (entry k (data_of v)) (later (omega arith))

-- a new key goes last
pub put_new : (new : List ℕ) (w : Value) (ks : List (List ℕ)) (vs : List Value) → length ks ≡ length vs → length ks ≤ place new ks
    → entries_of (ks ++ new ∷ []) (vs ++ w ∷ []) ≡ entries_with new (data_of w) (entries_of ks vs)
put_new new w [] [] fit h = refl
put_new new w [] (v ∷ vs) fit h = absurd (omega arith)
put_new new w (k ∷ ks) [] fit h = absurd (omega arith)
put_new new w (k ∷ ks) (v ∷ vs) fit h = one_new (bytes_eq new k) (place new ks) (length ks) new k w v (entries_of (ks ++ new ∷ []) (vs ++ w ∷ [])) (entries_of ks vs) h (put_new new w ks vs (omega arith))

chosen : (b : Bool) (n i : ℕ) → Some i ≡ cond b (Some n) None → (b ≡ true) × (i ≡ n)
chosen true n i e = (refl, cc)
chosen false n i e = absurd cc

none_chosen : (b : Bool) (n : ℕ) → None ≡ cond b (Some n) None → b ≡ false
none_chosen true n e = absurd cc
none_chosen false n e = refl

pub at_position : (q : List ℕ) (ks : List (List ℕ)) (i : ℕ) → Some i ≡ position (λ k. bytes_eq q k) ks → (place q ks < length ks) × (i ≡ place q ks)
at_position q ks i e = let p = chosen (nat_lt (place q ks) (length ks)) (place q ks) i e in (ltb-true (place q ks) (length ks) p.0, p.1)

pub no_position : (q : List ℕ) (ks : List (List ℕ)) → None ≡ position (λ k. bytes_eq q k) ks → length ks ≤ place q ks
no_position q ks e = ltb-false (place q ks) (length ks) (none_chosen (nat_lt (place q ks) (length ks)) (place q ks) e)

-- whether a key is there
pub has_key : (q : List ℕ) (ks : List (List ℕ)) (vs : List Value) (r : Option ℕ) → length ks ≡ length vs → r ≡ position (λ k. bytes_eq q k) ks → is_some r ≡ is_some (find q (entries_of ks vs))
has_key q ks vs None fit e = ap is_some (sym (find_out q ks vs (no_position q ks e)))
has_key q ks vs (Some i) fit e =
    let there = (at_position q ks i e).0 in
    let some = slice_get-get_or vs (place q ks) (value.Boolean true) (omega arith) in
    sym (ap is_some (find_in q ks vs there ∙ ap (option_map data_of) some))

no_any_at : (b c : Bool) (n m : ℕ) → (b || c) ≡ false → (c ≡ false → m ≤ n) → suc m ≤ cond (not b) (1 + n) 0
no_any_at true c n m e later = absurd cc
no_any_at false c n m e later = let h = later e in omega arith

pub no_any : {X : Type 0} (p : X → Bool) (xs : List X) → list_any p xs ≡ false → length xs ≤ position_or_len p xs
no_any p [] e = omega arith
no_any p (x ∷ xs) e = no_any_at (p x) (list_any p xs) (position_or_len p xs) (length xs) e (no_any p xs)

some_any_at : (b c : Bool) (n m : ℕ) → (b || c) ≡ true → (c ≡ true → n < m) → cond (not b) (1 + n) 0 < suc m
some_any_at true c n m e later = omega arith
some_any_at false c n m e later = let h = later e in omega arith

pub some_any : {X : Type 0} (p : X → Bool) (xs : List X) → list_any p xs ≡ true → position_or_len p xs < length xs
some_any p [] e = absurd cc
some_any p (x ∷ xs) e = some_any_at (p x) (list_any p xs) (position_or_len p xs) (length xs) e (some_any p xs)

pub copied : (r : Option (Bor Value)) (vs : List Value) (i : ℕ) → is_some r ≡ nat_lt i (length vs) → IfSome r (λ x. x.now ≡ get_or vs i x.now) → option_map (λ x. data_of x.now) r ≡ option_map data_of (slice_get vs i)
copied None vs i e h = ap (option_map data_of) (sym (slice_get_past vs i (ltb-false i (length vs) (sym e))))
copied (Some x) vs i e h = ap (λ y. Some (data_of y)) h ∙ ap (option_map data_of) (sym (slice_get-get_or vs i x.now (ltb-true i (length vs) (sym e))))

pub entry_values-entries_of : (ks : List (List ℕ)) (vs : List Value) → length ks ≡ length vs → entry_values (entries_of ks vs) ≡ items_of vs
entry_values-entries_of [] [] fit = refl
entry_values-entries_of [] (v ∷ vs) fit = absurd (omega arith)
entry_values-entries_of (k ∷ ks) [] fit = absurd (omega arith)
entry_values-entries_of (k ∷ ks) (v ∷ vs) fit = ap (item (data_of v)) (entry_values-entries_of ks vs (omega arith))

pub keys_in-entries_of : (ks : List (List ℕ)) (vs : List Value) → length ks ≡ length vs → keys_in (entries_of ks vs) ≡ ks
keys_in-entries_of [] [] fit = refl
keys_in-entries_of [] (v ∷ vs) fit = absurd (omega arith)
keys_in-entries_of (k ∷ ks) [] fit = absurd (omega arith)
keys_in-entries_of (k ∷ ks) (v ∷ vs) fit = ap (λ x. k ∷ x) (keys_in-entries_of ks vs (omega arith))

-- the same keys beside the same values are the same entries
pub entries_from : (es fs : Entries) → keys_in es ≡ keys_in fs → entry_values es ≡ entry_values fs → es ≡ fs
entries_from no_entries no_entries e f = refl
entries_from no_entries (entry l d fs) e f = absurd cc
entries_from (entry k c es) no_entries e f = absurd cc
entries_from (entry k c es) (entry l d fs) e f =
    let keys : keys_in es ≡ keys_in fs = cc in
    let values : entry_values es ≡ entry_values fs = cc in
    let later : es ≡ fs = entries_from es fs keys values in
    let key : k ≡ l = cc in
    let value : c ≡ d = cc in
    cc

pub items_weight-le-entries_weight : (es : Entries) → items_weight (entry_values es) ≤ entries_weight es
items_weight-le-entries_weight no_entries = omega arith
items_weight-le-entries_weight (entry k d es) = omega (arith, items_weight-le-entries_weight es)

pub key_read : (ks : List (List ℕ)) (vs : List Value) (i : ℕ) (k : List ℕ) → length ks ≡ length vs → slice_get ks i ≡ Some k → slice_get (keys_in (entries_of ks vs)) i ≡ Some k
key_read ks vs i k fit is = ap (λ l. slice_get l i) (keys_in-entries_of ks vs fit) ∙ is

none_past : (ks : List (List ℕ)) (i : ℕ) → slice_get ks i ≡ None → i < length ks → ⊥
none_past [] i e h = omega arith
none_past (k ∷ ks) zero e h = absurd cc
none_past (k ∷ ks) (suc i) e h = none_past ks i e (omega arith)

pub key_there : (ks : List (List ℕ)) (vs : List Value) (es : Entries) (i : ℕ) → length ks ≡ length vs → entries_of ks vs ≡ es → i < entry_count es → slice_get ks i ≡ None → ⊥
key_there ks vs es i fit is h none = none_past ks i none (omega (arith, entry_count-entries_of ks vs fit, ap entry_count is))

pub dictionary_inj : (es fs : Entries) → dictionary es ≡ dictionary fs → es ≡ fs
dictionary_inj es fs e = cc
