-- Texts that grow piece by piece.
use Rattle.std.proofs.Common.{◌≡◌, ℕ, zero, suc, ◌+◌, ◌-◌, ◌<◌, ◌≤◌, Bool, true, false, List, [], ◌∷◌, ◌++◌, length, get_or, drop, map}
use Rattle.std.proofs.Common.{Bor, refl, sym, ap, ◌∙◌, rules, tests}
use Rattle.std.specs.Prelude.{Ok, Err, nat_le, nat_eq, ◌==◌, if◌then◌else◌}
use Rattle.std.specs.List.{flat_map, starts_with, onto_first}
use Rattle.std.proofs.lemmas.List.{append_assoc, length-append, drop_more, drop_all}
use Rattle.std.proofs.lemmas.Bool.{cond-true, cond-false}
use Rattle.values.specs.declared.refusal.OperationRefusal.TheVariants as refusal
use Rattle.values.specs.texts.Pieces.{parts, parts_after}
use Rattle.values.specs.texts.Joined.{joined_texts, replaced_text}
use Rattle.values.specs.Limits.{within_bytes}

pub too_long : (all made piece more : List ℕ) → all ≡ made ++ (piece ++ more) → 16777216 < length (made ++ piece)
    → Err refusal.Limit ≡ within_bytes all
too_long all made piece more all_is long =
    let count : length all ≡ length (made ++ piece) + length more = ap length (all_is ∙ sym (append_assoc made piece more))
    ∙ length-append (made ++ piece) more in
    sym (cond-false (nat_le (length all) 16777216) (Ok all) (Err refusal.Limit) (search (rules, tests)))

pub short_enough : (all made : List ℕ) → all ≡ made → length made ≤ 16777216 → Ok made ≡ within_bytes all
short_enough all made all_is short =
    ap (λ text. Ok text) (sym all_is) ∙ sym (cond-true (nat_le (length all) 16777216) (Ok all) (Err refusal.Limit) (search (rules, tests)))

-- a piece has moved from what is to come to what was made
pub grown : (all made piece more new : List ℕ) → all ≡ made ++ (piece ++ more) → new ≡ made ++ piece → all ≡ new ++ more
grown all made piece more new all_is new_is = all_is ∙ sym (append_assoc made piece more) ∙ ap (λ text. text ++ more) (sym new_is)

-- the pieces from some place on, each behind a separator
abbrev pub pieces_from : List ℕ → List (Bor (List ℕ)) → ℕ → List ℕ
pieces_from separator pieces i = flat_map (λ next. separator ++ next) (map (λ p. p.now) (drop i pieces))

pub next_piece : (separator : List ℕ) (pieces : List (Bor (List ℕ))) (i : ℕ) (x : Bor (List ℕ)) → i < length pieces
    → pieces_from separator pieces i ≡ (separator ++ (get_or pieces i x).now) ++ pieces_from separator pieces (i + 1)
next_piece separator pieces i x below = ap (λ ps. flat_map (λ next. separator ++ next) (map (λ p. p.now) ps)) (drop_more pieces i x below)

pub no_pieces : (separator : List ℕ) (pieces : List (Bor (List ℕ))) (i : ℕ) → length pieces ≤ i → pieces_from separator pieces i ≡ []
no_pieces separator pieces i all = ap (λ ps. flat_map (λ next. separator ++ next) (map (λ p. p.now) ps)) (drop_all i pieces all)

some_front : (b : Bool) (x : ℕ) (xss yss : List (List ℕ)) → (q : List ℕ) × (qs : List (List ℕ)) ×
    ((if b then [] ∷ xss else onto_first x yss) ≡ q ∷ qs)
some_front true x xss yss = ([], xss, refl)
some_front false x xss [] = (x ∷ [], [], refl)
some_front false x xss (ys ∷ yss) = (x ∷ ys, yss, refl)

-- a text has a first part
pub some_part : (passed : ℕ) (separator text : List ℕ) → (q : List ℕ) × (qs : List (List ℕ)) × (parts_after passed separator text ≡ q ∷ qs)
some_part passed separator [] = ([], [], refl)
some_part zero separator (b ∷ bs) = some_front (starts_with nat_eq (b ∷ bs) separator) b
    (parts_after (length separator - 1) separator bs) (parts_after zero separator bs)
some_part (suc passed) separator (b ∷ bs) = some_part passed separator bs

-- a part before others is followed by what stands between parts
pub joined_more : (between part separator rest : List ℕ) → joined_texts between (part ∷ parts separator rest) ≡
    (part ++ between) ++ joined_texts between (parts separator rest)
joined_more between part separator rest =
    let first = some_part zero separator rest in
    ap (λ ps. joined_texts between (part ∷ ps)) first.2
    ∙ ap (λ text. part ++ text) (append_assoc between first.0 (flat_map (λ next. between ++ next) first.1))
    ∙ sym (append_assoc part between (joined_texts between (first.0 ∷ first.1)))
    ∙ ap (λ ps. (part ++ between) ++ joined_texts between ps) (sym first.2)

pub replaced_is : (text old new : List ℕ) → length old == 0 ≡ false → replaced_text text old new ≡ within_bytes (joined_texts new (parts old text))
replaced_is text old new filled = cond-false (length old == 0) (Err refusal.Arguments) (within_bytes (joined_texts new (parts old text))) filled
