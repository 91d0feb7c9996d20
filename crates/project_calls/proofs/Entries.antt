-- The defaults of a dictionary, one after another.
use Rattle.std.proofs.Common.{◌≡◌, ℕ, zero, suc, ◌+◌, ◌<◌, List, [], ◌∷◌, ◌++◌, map, drop, length, get_or, String, Global, string_bytes}
use Rattle.std.proofs.Common.{sym, ap, ◌∙◌, add-one, append_assoc, arith}
use Rattle.std.proofs.lemmas.List.{map-append}
use Rattle.options.specs.Verdicts.{Default, Entry}
use Rattle.options.specs.View.{default_in, defaults_in}
use Rattle.options.specs.declared.place.ProjectDefault.{ProjectDefault}
use Rattle.project_calls.specs.Defaults.{entry_defaults}

-- the next key and its value
entry_next : (ks : List (List ℕ)) (ps : List (String Global)) (i : ℕ) (k : List ℕ) (p : String Global) → i < length ks → i < length ps → k ≡ get_or ks i k → p ≡ get_or ps i p
    → entry_defaults (drop i ks) (drop i (map string_bytes ps)) ≡ Entry k (string_bytes p) ∷ entry_defaults (drop (suc i) ks) (drop (suc i) (map string_bytes ps))
entry_next [] ps i k p h l a b = absurd (omega arith)
entry_next (x ∷ ks) [] i k p h l a b = absurd (omega arith)
entry_next (x ∷ ks) (y ∷ ps) zero k p h l a b =
    ap (λ n. Entry n (string_bytes y) ∷ entry_defaults ks (map string_bytes ps)) (sym a) ∙ ap (λ v. Entry k (string_bytes v) ∷ entry_defaults ks (map string_bytes ps)) (sym b)
entry_next (x ∷ ks) (y ∷ ps) (suc i) k p h l a b = entry_next ks ps i k p (omega arith) (omega arith) a b

-- one default more
pub defaults_more : (ds new : List ProjectDefault) (d : ProjectDefault) (ks : List (List ℕ)) (ps : List (String Global)) (i : ℕ) (k : List ℕ) (p : String Global) (whole : List Default)
    → i < length ks → k ≡ get_or ks i k → i < length ps → p ≡ get_or ps i p → default_in d ≡ Entry k (string_bytes p) → new ≡ ds ++ d ∷ []
    → defaults_in ds ++ entry_defaults (drop i ks) (drop i (map string_bytes ps)) ≡ whole → defaults_in new ++ entry_defaults (drop (i + 1) ks) (drop (i + 1) (map string_bytes ps)) ≡ whole
defaults_more ds new d ks ps i k p whole h a l b is n now =
    rw add-one
    (ap (λ xs. defaults_in xs ++ entry_defaults (drop (suc i) ks) (drop (suc i) (map string_bytes ps))) n
    ∙ ap (λ x. x ++ entry_defaults (drop (suc i) ks) (drop (suc i) (map string_bytes ps))) (map-append default_in ds (d ∷ []))
    ∙ append_assoc (defaults_in ds) (default_in d ∷ []) (entry_defaults (drop (suc i) ks) (drop (suc i) (map string_bytes ps)))
    ∙ ap (λ e. defaults_in ds ++ (e ∷ entry_defaults (drop (suc i) ks) (drop (suc i) (map string_bytes ps)))) is
    ∙ sym (ap (λ x. defaults_in ds ++ x) (entry_next ks ps i k p h l a b)) ∙ now)
