-- How a file is read line after line.
use Rattle.std.proofs.Common.{◌≡◌, ℕ, Bool, true, false, eqb, ◌||◌, List, [], ◌∷◌, ◌++◌, Option, Some, None, refl, sym, ap, ◌∙◌}
use Rattle.std.proofs.Common.{append_assoc, inl, inr}
use Rattle.std.proofs.lemmas.Bool.{and_parts, or_parts, or_from, cases_Bool}
use Rattle.ninja.specs.Machine.{before}
use Rattle.ninja.specs.Pieces.{Piece, Plain, Outside, escapes, pieces_of}
use Rattle.ninja.specs.Lines.{is_plain, put_in_line, lines_of}
use Rattle.support.specs.OptionSteps.{◌>>=◌}
use Rattle.ninja.specs.Reading.{Statement, statement_of, State, after_statement, after_lines, reads_from}
use Rattle.ninja.specs.Escapes.{wants_dollar}
use Rattle.build.specs.edge.Holding.{path_byte_held, path_held, is_path, value_byte_held, value_held}
use Rattle.ninja.proofs.Machines.{Passes, passes_both, passes_on}
use Rattle.ninja.proofs.ShellWords.{other_than}
use Rattle.ninja.proofs.Pieces.{path_piece, path_pieces, value_piece, value_rest_pieces, first_value_piece, value_pieces}

abbrev pub has_newline : List Piece → Bool
has_newline [] = false
has_newline (p ∷ ps) = is_plain 10 p || has_newline ps

-- these pieces stand in one line
pub record IsInLine (ps : List Piece) : Type 0 where
  pub none : has_newline ps ≡ false

pub in_line_both : (ps qs : List Piece) → IsInLine ps → IsInLine qs → IsInLine (ps ++ qs)
in_line_both [] qs f g = g
in_line_both (p ∷ ps) qs f g =
    let h = or_parts (is_plain 10 p) (has_newline ps) f.none in
    record { none = or_from (is_plain 10 p) (has_newline (ps ++ qs)) h.0 (in_line_both ps qs (record { none = h.1 }) g).none }

lines_first : (ps rest : List Piece) → has_newline ps ≡ false → lines_of (ps ++ Plain 10 ∷ rest) ≡ ps ∷ lines_of rest
lines_first [] rest h = refl
lines_first (p ∷ ps) rest h =
    let k = or_parts (is_plain 10 p) (has_newline ps) h in
    ap (put_in_line p) (lines_first ps rest k.1) ∙ rw k.0 refl

-- ---- one line

-- a text that is one line of these pieces
pub record IsLine (text : List ℕ) (ps : List Piece) : Type 0 where
  pub passes : Passes escapes Outside text ps Outside
  pub in_line : IsInLine ps

pub line_both : (a b : List ℕ) (ps qs : List Piece) → IsLine a ps → IsLine b qs → IsLine (a ++ b) (ps ++ qs)
line_both a b ps qs f g = record { passes = passes_both escapes Outside a ps Outside b qs Outside f.passes g.passes; in_line = in_line_both ps qs f.in_line g.in_line }

newline_passes : (ps : List Piece) (text : List ℕ) → Passes escapes Outside text ps Outside → Passes escapes Outside (text ++ 10 ∷ []) (ps ++ Plain 10 ∷ []) Outside
newline_passes ps text p = passes_both escapes Outside text ps Outside (10 ∷ []) (Plain 10 ∷ []) Outside p (record { state = refl; given = refl })

goes_on : (s t : State) (ps : List Piece) (statement : Statement) (rest : Option (List Piece)) → has_newline ps ≡ false → statement_of ps ≡ Some statement → after_statement s statement ≡ Some t
    → (before (ps ++ Plain 10 ∷ []) rest >>= λ qs. after_lines s (lines_of qs)) ≡ (rest >>= λ qs. after_lines t (lines_of qs))
goes_on s t ps statement None one e f = refl
goes_on s t ps statement (Some rest) one e f =
    ap (λ qs. after_lines s (lines_of qs)) (append_assoc ps (Plain 10 ∷ []) rest)
    ∙ ap (after_lines s) (lines_first ps rest one)
    ∙ ap (λ v. v >>= λ x. after_statement s x >>= λ u. after_lines u (lines_of rest)) e
    ∙ ap (λ v. v >>= λ u. after_lines u (lines_of rest)) f

-- a line of a text is read, and then what follows it
pub line_read : (s t : State) (text : List ℕ) (ps : List Piece) (statement : Statement) (after rest : List ℕ) → IsLine text ps → statement_of ps ≡ Some statement → after_statement s statement ≡ Some t
    → reads_from s ((text ++ 10 ∷ after) ++ rest) ≡ reads_from t (after ++ rest)
line_read s t text ps statement after rest line e f =
    let regrouped : (text ++ 10 ∷ after) ++ rest ≡ (text ++ 10 ∷ []) ++ (after ++ rest) = append_assoc text (10 ∷ after) rest ∙ sym (append_assoc text (10 ∷ []) (after ++ rest)) in
    ap (reads_from s) regrouped
    ∙ ap (λ v. v >>= λ qs. after_lines s (lines_of qs)) (passes_on escapes Outside (text ++ 10 ∷ []) (ps ++ Plain 10 ∷ []) Outside (after ++ rest) (newline_passes ps text line.passes))
    ∙ goes_on s t ps statement (pieces_of (after ++ rest)) line.in_line.none e f

-- ---- paths and values stand in one line

path_piece_in_line : (b : ℕ) → path_byte_held b ≡ true → is_plain 10 (path_piece b) ≡ false
path_piece_in_line b h = elim (cases_Bool (wants_dollar b)) [ inl e ↦ rw e refl | inr e ↦ rw e (other_than path_byte_held 10 b refl h) ]

path_no_newline : (p : List ℕ) → path_held p ≡ true → has_newline (path_pieces p) ≡ false
path_no_newline [] h = refl
path_no_newline (b ∷ bs) h =
    let k = and_parts (path_byte_held b) (path_held bs) h in
    or_from (is_plain 10 (path_piece b)) (has_newline (path_pieces bs)) (path_piece_in_line b k.0) (path_no_newline bs k.1)

held_path : (p : List ℕ) → is_path p ≡ true → path_held p ≡ true
held_path [] h = refl
held_path (b ∷ bs) h = h

pub path_in_line : (p : List ℕ) → is_path p ≡ true → IsInLine (path_pieces p)
path_in_line p h = record { none = path_no_newline p (held_path p h) }

value_piece_in_line : (b : ℕ) → value_byte_held b ≡ true → is_plain 10 (value_piece b) ≡ false
value_piece_in_line b h = elim (cases_Bool (eqb b 36)) [ inl e ↦ rw e refl | inr e ↦ rw e (other_than value_byte_held 10 b refl h) ]

first_piece_in_line : (b : ℕ) → value_byte_held b ≡ true → is_plain 10 (first_value_piece b) ≡ false
first_piece_in_line b h = elim (cases_Bool (eqb b 32)) [ inl e ↦ rw e refl | inr e ↦ rw e (value_piece_in_line b h) ]

value_rest_no_newline : (v : List ℕ) → value_held v ≡ true → has_newline (value_rest_pieces v) ≡ false
value_rest_no_newline [] h = refl
value_rest_no_newline (b ∷ bs) h =
    let k = and_parts (value_byte_held b) (value_held bs) h in
    or_from (is_plain 10 (value_piece b)) (has_newline (value_rest_pieces bs)) (value_piece_in_line b k.0) (value_rest_no_newline bs k.1)

value_no_newline : (v : List ℕ) → value_held v ≡ true → has_newline (value_pieces v) ≡ false
value_no_newline [] h = refl
value_no_newline (b ∷ bs) h =
    let k = and_parts (value_byte_held b) (value_held bs) h in
    or_from (is_plain 10 (first_value_piece b)) (has_newline (value_rest_pieces bs)) (first_piece_in_line b k.0) (value_rest_no_newline bs k.1)

pub value_in_line : (v : List ℕ) → value_held v ≡ true → IsInLine (value_pieces v)
value_in_line v h = record { none = value_no_newline v h }
