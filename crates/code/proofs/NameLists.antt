-- Tables of names as lists.
use Rattle.std.proofs.Common.{◌≡◌, ℕ, ◌+◌, ◌<◌, Bool, true, false, cond, List, [], ◌∷◌, ◌++◌, length, map, get_or, Some, None, Result, Ok}
use Rattle.std.proofs.Common.{Err, String, Global, string_bytes, bytes_eq, refl, sym, ap, ◌∙◌, arith}
use Rattle.std.specs.Prelude.{nat_lt, not, ◌||◌, slice_index_or, nat_eq, if◌then◌else◌}
use Rattle.std.specs.List.{prefix_len, position, position_or_len, list_any, IsDistinct, AllByRecursion}
use Rattle.std.specs.String.{string_eq}
use Rattle.std.proofs.lemmas.Grind.{common_steps}
use Rattle.std.proofs.lemmas.List.{map_push, length-map}
use Rattle.std.specs.Result.{IfOk, OnOk, OnErr}
use Rattle.std.proofs.lemmas.Result.{IfOk-weaker}
use Rattle.std.proofs.lemmas.List.Folds.{position_or_len_push}
use Rattle.std.proofs.lemmas.List.Quantifiers.{position-Some}
use Rattle.std.proofs.lemmas.Slice.Eq.{bytes_eq-Decides}
use Rattle.support.specs.Sets.{insert_key}
use Rattle.code.specs.Names.{texts, number_in, with_name}
use Rattle.std.specs.declared.alloc.AllocError.{AllocError}
use Rattle.code.specs.Draft.{IsFront}
use Rattle.code.proofs.Trees.{is_less}

prefix_len-map : {X Y : Type 0} (f : X → Y) (p : Y → Bool) (xs : List X) → prefix_len p (map f xs) ≡ prefix_len (λ x. p (f x)) xs
prefix_len-map f p [] = refl
prefix_len-map f p (x ∷ xs) = ap (λ n. cond (p (f x)) (1 + n) 0) (prefix_len-map f p xs)

-- the place of a name among strings
abbrev pub place : List ℕ → List (String Global) → ℕ
place q ks = position_or_len (λ k. bytes_eq q (string_bytes k)) ks

pub position_texts : (q : List ℕ) (ks : List (String Global)) → number_in q (texts ks) ≡ position (λ k. bytes_eq q (string_bytes k)) ks
position_texts q ks =
    ap (λ n. cond (nat_lt n (length (texts ks))) (Some n) None) (prefix_len-map string_bytes (λ x. not (bytes_eq q x)) ks)
    ∙ ap (λ m. cond (nat_lt (place q ks) m) (Some (place q ks)) None) (length-map ks string_bytes)

any_texts : (q : List ℕ) (ks : List (String Global)) → list_any (bytes_eq q) (texts ks) ≡ list_any (λ k. bytes_eq q (string_bytes k)) ks
any_texts q [] = refl
any_texts q (k ∷ ks) = ap (λ b. bytes_eq q (string_bytes k) || b) (any_texts q ks)

-- a name that is there changes nothing
pub put_known : (q : List ℕ) (ks : List (String Global)) → true ≡ list_any (λ k. bytes_eq q (string_bytes k)) ks → texts ks
    ≡ with_name q (texts ks)
put_known q ks e = ap (λ b. if b then texts ks else texts ks ++ q ∷ []) (e ∙ sym (any_texts q ks))

one_put : (b : Bool) (k : String Global) (ks : List (String Global)) → texts (if b then ks else ks ++ k ∷ [])
    ≡ (if b then texts ks else texts ks ++ string_bytes k ∷ [])
one_put true k ks = refl
one_put false k ks = map_push string_bytes ks k

-- an inserted string
pub put_new : (k : String Global) (old new : List (String Global)) → new ≡ insert_key string_eq old k → texts new
    ≡ with_name (string_bytes k) (texts old)
put_new k old new e =
    ap texts e ∙ one_put (list_any (string_eq k) old) k old ∙ ap (λ b. if b then texts old else texts old ++ string_bytes k ∷ [])
    (sym (any_texts (string_bytes k) old))

same_bytes : (x : List ℕ) → bytes_eq x x ≡ true
same_bytes x = (bytes_eq-Decides x x).1 refl

choose_place : (c : Bool) (n m : ℕ) → c ≡ true → cond (nat_eq n m) (m + cond c 0 1) n ≡ n
choose_place c n m e = grind arith

one_place : (b : Bool) (k : String Global) (ks : List (String Global))
    → position_or_len (string_eq k) (if b then ks else ks ++ k ∷ []) ≡ position_or_len (string_eq k) ks
one_place true k ks = refl
one_place false k ks = position_or_len_push (string_eq k) ks k
    ∙ choose_place (string_eq k k) (position_or_len (string_eq k) ks) (length ks) (same_bytes (string_bytes k))

-- and its number
pub number_new : (k : String Global) (old new : List (String Global)) (n : ℕ) → new ≡ insert_key string_eq old k → n
    ≡ position_or_len (string_eq k) old → n < length new → number_in (string_bytes k) (texts new) ≡ Some n
number_new k old new n e at l =
    let same : position_or_len (string_eq k) new ≡ n = ap (position_or_len (string_eq k)) e
    ∙ one_place (list_any (string_eq k) old) k old ∙ sym at in
    position_texts (string_bytes k) new
    ∙ ap (λ m. cond (nat_lt m (length new)) (Some m) None) same
    ∙ ap (λ b. cond b (Some n) None) (is_less n (length new) l)

apart : (k : String Global) (ks : List (String Global)) → AllByRecursion (λ y. string_eq k y ≡ false) ks
    → AllByRecursion (λ y. bytes_eq (string_bytes k) y ≡ false) (texts ks)
apart k [] h = h
apart k (x ∷ xs) h = (h.0, apart k xs h.1)

-- no name stands twice
pub distinct_texts : (ks : List (String Global)) → IsDistinct string_eq ks → IsDistinct bytes_eq (texts ks)
unfolding IsDistinct
distinct_texts [] h = h
distinct_texts (k ∷ ks) h = (apart k ks h.0, distinct_texts ks h.1)

-- the name with the number of a name
pub name_at : (q : List ℕ) (names : List (List ℕ)) (n : ℕ) → number_in q names ≡ Some n
    → (n < length names) × (slice_index_or names n [] ≡ q)
name_at q names n e =
    let p = position-Some (bytes_eq q) names n [] e in
    (p.0, sym ((bytes_eq-Decides q (get_or names n [])).0 p.1))

begins_chosen : (b : Bool) (q : List ℕ) (names : List (List ℕ)) → IsFront names (if b then names else names ++ q ∷ [])
begins_chosen true q names = record { more = []; is = grind (arith, common_steps) }
begins_chosen false q names = record { more = q ∷ []; is = refl }

pub begins_with_name : (q : List ℕ) (names : List (List ℕ)) → IsFront names (with_name q names)
begins_with_name q names = begins_chosen (list_any (bytes_eq q) names) q names

-- the old names are a beginning of the new ones, also where memory is refused
pub begins_put : (q : List ℕ) (old new : List (List ℕ)) (r : Result ℕ AllocError) → OnOk r (new ≡ with_name q old) → OnErr r (new
    ≡ old) → IsFront old new
begins_put q old new (Ok n) h g = let b = begins_with_name q old in record { more = b.more; is = h ∙ b.is }
begins_put q old new (Err e) h g = record { more = []; is = g ∙ grind (arith, common_steps) }

pub name_put : (q : List ℕ) (new : List (List ℕ)) (r : Result ℕ AllocError) → IfOk r (λ n. number_in q new ≡ Some n)
    → IfOk r (λ n. slice_index_or new n [] ≡ q)
name_put q new r h = IfOk-weaker r (λ n. number_in q new ≡ Some n) (λ n. slice_index_or new n [] ≡ q) (λ n e. (name_at q new n e).1) h
