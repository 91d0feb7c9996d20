-- A text cut into words, character by character.
use Rattle.std.proofs.Common.{◌≡◌, ℕ, ◌+◌, ◌<◌, List, length, drop, get_or, sym, ap, ◌∙◌}
use Rattle.std.proofs.lemmas.List.{at_drop_more}
use Rattle.option_values.specs.Words.{Cut, after, cut_from}

pub cut_on : (s more whole : Cut) (cs : List ℕ) (n m c : ℕ) → (n < length cs) × (c ≡ get_or cs n c) → cut_from s (drop n cs) ≡ whole
    → more ≡ after s c → m ≡ n + 1 → cut_from more (drop m cs) ≡ whole
cut_on s more whole cs n m c at h e l =
    ap (λ k. cut_from more (drop k cs)) l
    ∙ ap (λ t. cut_from t (drop (n + 1) cs)) e
    ∙ ap (λ x. cut_from (after s x) (drop (n + 1) cs)) at.1
    ∙ sym (at_drop_more (cut_from s) cs n c at.0)
    ∙ h
