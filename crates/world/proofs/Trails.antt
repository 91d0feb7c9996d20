-- Texts that lie in one text, when a further one is put behind them.
use Rattle.std.proofs.Common.{◌≡◌, ℕ, ◌+◌, ◌≤◌, true, List, [], ◌∷◌, ◌++◌, take, drop, length, refl, ap, ◌∙◌, arith, length-append}
use Rattle.std.proofs.Common.{length-drop}
use Rattle.std.proofs.lemmas.Bool.{le-leb, leb-true, and_parts, and_from}
use Rattle.std.proofs.lemmas.List.{drop_at, drop-append-le, map-append, take_all, take-append-le}
use Rattle.std.proofs.lemmas.List.Folds.{list_all-append}
use Rattle.world.specs.Trail.{are_within, is_within, piece, pieces}
use Rattle.world.specs.declared.text_buffer.Span.{Span}

within : (whole : List ℕ) (s : Span) → is_within whole s ≡ true → s.from + s.length ≤ length whole
within whole s h = leb-true (s.from + s.length) (length whole) h

is_within-longer : (whole more : List ℕ) (s : Span) → is_within whole s ≡ true → is_within (whole ++ more) s ≡ true
is_within-longer whole more s h =
    le-leb (s.from + s.length) (length (whole ++ more)) (omega (arith, length-append whole more, within whole s h))

piece-longer : (whole more : List ℕ) (s : Span) → is_within whole s ≡ true → piece (whole ++ more) s ≡ piece whole s
piece-longer whole more s h =
    let start : s.from ≤ length whole = omega (arith, within whole s h) in
    let end : s.length ≤ length (drop s.from whole) = omega (arith, length-drop s.from whole, within whole s h) in
    ap (take s.length) (drop-append-le s.from whole more start) ∙ take-append-le s.length (drop s.from whole) more end

pub are_within-longer : (whole more : List ℕ) (spans : List Span) → are_within whole spans ≡ true → are_within (whole ++ more) spans ≡ true
are_within-longer whole more [] h = refl
are_within-longer whole more (s ∷ spans) h =
    let k = and_parts (is_within whole s) (are_within whole spans) h in
    and_from _ _ (is_within-longer whole more s k.0) (are_within-longer whole more spans k.1)

pieces-longer : (whole more : List ℕ) (spans : List Span) → are_within whole spans ≡ true
    → pieces (whole ++ more) spans ≡ pieces whole spans
pieces-longer whole more [] h = refl
pieces-longer whole more (s ∷ spans) h =
    let k = and_parts (is_within whole s) (are_within whole spans) h in
    ap (λ p. p ∷ pieces (whole ++ more) spans) (piece-longer whole more s k.0)
    ∙ ap (λ ps. piece whole s ∷ ps) (pieces-longer whole more spans k.1)

abbrev pub last : List ℕ → List ℕ → Span
last whole more = record { from = length whole; length = length more }

last_piece : (whole more : List ℕ) → piece (whole ++ more) (last whole more) ≡ more
last_piece whole more =
    let all : length more ≤ length more = omega arith in
    ap (take (length more)) (drop_at whole more (length whole) refl) ∙ take_all (length more) more all

-- with a further one they are within
pub are_within-more : (whole more : List ℕ) (spans : List Span) → are_within whole spans ≡ true
    → are_within (whole ++ more) (spans ++ last whole more ∷ []) ≡ true
are_within-more whole more spans h =
    let end : length whole + length more ≤ length (whole ++ more) = omega (arith, length-append whole more) in
    list_all-append (is_within (whole ++ more)) spans (last whole more ∷ [])
    ∙ and_from _ _ (are_within-longer whole more spans h)
    (and_from _ _ (le-leb (length whole + length more) (length (whole ++ more)) end) refl)

-- and it comes behind them
pub pieces-more : (whole more : List ℕ) (spans : List Span) → are_within whole spans ≡ true
    → pieces (whole ++ more) (spans ++ last whole more ∷ []) ≡ pieces whole spans ++ more ∷ []
pieces-more whole more spans h =
    map-append (piece (whole ++ more)) spans (last whole more ∷ [])
    ∙ ap (λ ps. ps ++ piece (whole ++ more) (last whole more) ∷ []) (pieces-longer whole more spans h)
    ∙ ap (λ p. pieces whole spans ++ p ∷ []) (last_piece whole more)
