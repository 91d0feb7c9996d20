-- Keys of which none is there twice, and one more.
use Rattle.std.proofs.Common.{◌≡◌, ℕ, true, false, List, [], ◌∷◌, ◌++◌, length, None, Some, bytes_eq}
use Rattle.std.proofs.Common.{sym, ap, ◌∙◌, arith}
use Rattle.std.specs.Prelude.{if◌then◌else◌, not}
use Rattle.std.specs.List.{position, position_or_len, list_any}
use Rattle.std.proofs.lemmas.Bool.{false_from_ne_true, true_from_ne_false}
use Rattle.std.proofs.lemmas.List.Sums.{fold-append, prefix_len-le-length}
use Rattle.support.specs.Sets.{insert_key, insert_all}
use Rattle.values.proofs.EntriesLemmas.{at_position, no_position, no_any, some_any}

-- a key that has a place is there
pub is_there : (q : List ℕ) (ks : List (List ℕ)) (i : ℕ) → Some i ≡ position (bytes_eq q) ks → list_any (bytes_eq q) ks ≡ true
is_there q ks i e =
    true_from_ne_false (list_any (bytes_eq q) ks) (λ no. omega (arith, no_any (bytes_eq q) ks no, (at_position q ks i e).0))

-- and one that has none is not, and would go last
pub is_missing : (q : List ℕ) (ks : List (List ℕ)) → None ≡ position (bytes_eq q) ks → list_any (bytes_eq q) ks ≡ false
is_missing q ks e =
    false_from_ne_true (list_any (bytes_eq q) ks) (λ yes. omega (arith, some_any (bytes_eq q) ks yes, no_position q ks e))

pub goes_last : (q : List ℕ) (ks : List (List ℕ)) → None ≡ position (bytes_eq q) ks → position_or_len (bytes_eq q) ks ≡ length ks
goes_last q ks e = omega (arith, no_position q ks e, prefix_len-le-length (λ k. not (bytes_eq q k)) ks)

pub inserted_there : (q : List ℕ) (ks : List (List ℕ)) (i : ℕ) → Some i ≡ position (bytes_eq q) ks → ks ≡ insert_key bytes_eq ks q
inserted_there q ks i e = ap (λ b. if b then ks else ks ++ q ∷ []) (sym (is_there q ks i e))

pub inserted_new : (q : List ℕ) (ks : List (List ℕ)) → None ≡ position (bytes_eq q) ks → ks ++ q ∷ [] ≡ insert_key bytes_eq ks q
inserted_new q ks e = ap (λ b. if b then ks else ks ++ q ∷ []) (sym (is_missing q ks e))

-- keys that are apart stay so with a new one behind
pub still_apart : (q : List ℕ) (ks : List (List ℕ)) → None ≡ position (bytes_eq q) ks → insert_all bytes_eq [] ks ≡ ks
    → insert_all bytes_eq [] (ks ++ q ∷ []) ≡ ks ++ q ∷ []
still_apart q ks e apart =
    fold-append (insert_key bytes_eq) [] ks (q ∷ []) ∙ ap (λ l. insert_key bytes_eq l q) apart ∙ sym (inserted_new q ks e)
