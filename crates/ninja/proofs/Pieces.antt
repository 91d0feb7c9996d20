-- The pieces of what the writer makes of paths and values.
use Rattle.std.proofs.Common.{◌≡◌, ℕ, false, cond, eqb, ◌==◌, ◌||◌, List, [], ◌∷◌, ◌++◌, refl, sym, ap, ◌∙◌, subst, inl, inr}
use Rattle.std.proofs.lemmas.Bool.{or_parts, eqb-true, cases_Bool}
use Rattle.ninja.specs.Pieces.{Piece, Plain, Escaped, Outside, escapes, Scope, piece_text, expansion}
use Rattle.ninja.specs.Lines.{is_plain, without_blanks}
use Rattle.ninja.specs.Escapes.{wants_dollar, path_byte_text, path_text, value_byte_text, value_rest_text, value_text}
use Rattle.ninja.proofs.Machines.{Passes, passes_none, passes_both}

abbrev pub path_piece : ℕ → Piece
path_piece b = cond (wants_dollar b) (Escaped b) (Plain b)

abbrev pub path_pieces : List ℕ → List Piece
path_pieces [] = []
path_pieces (b ∷ bs) = path_piece b ∷ path_pieces bs

path_byte_passes : (b : ℕ) → Passes escapes Outside (path_byte_text b) (path_piece b ∷ []) Outside
path_byte_passes b =
    elim (cases_Bool (wants_dollar b)) [
      | inl e ↦ rw e (record { state = rw e refl; given = rw e refl })
      | inr e ↦ let h = (or_parts (eqb b 36) (eqb b 32 || eqb b 58) e).0 in rw e (record { state = rw h refl; given = rw h refl })
    ]

pub path_passes : (p : List ℕ) → Passes escapes Outside (path_text p) (path_pieces p) Outside
path_passes [] = passes_none escapes Outside
path_passes (b ∷ bs) = passes_both escapes Outside (path_byte_text b) (path_piece b ∷ []) Outside (path_text bs) (path_pieces bs) Outside (path_byte_passes b) (path_passes bs)

path_piece_text : (scope : Scope) (b : ℕ) → piece_text scope (path_piece b) ≡ b ∷ []
path_piece_text scope b = elim (cases_Bool (wants_dollar b)) [ inl e ↦ rw e refl | inr e ↦ rw e refl ]

pub path_again : (scope : Scope) (p : List ℕ) → expansion scope (path_pieces p) ≡ p
path_again scope [] = refl
path_again scope (b ∷ bs) = ap (λ v. v ++ expansion scope (path_pieces bs)) (path_piece_text scope b) ∙ ap (λ v. b ∷ v) (path_again scope bs)

-- ---- values

abbrev pub value_piece : ℕ → Piece
value_piece b = cond (b == 36) (Escaped b) (Plain b)

abbrev pub value_rest_pieces : List ℕ → List Piece
value_rest_pieces [] = []
value_rest_pieces (b ∷ bs) = value_piece b ∷ value_rest_pieces bs

abbrev pub first_value_piece : ℕ → Piece
first_value_piece b = cond (b == 32) (Escaped 32) (value_piece b)

abbrev pub value_pieces : List ℕ → List Piece
value_pieces [] = []
value_pieces (b ∷ bs) = first_value_piece b ∷ value_rest_pieces bs

value_byte_passes : (b : ℕ) → Passes escapes Outside (value_byte_text b) (value_piece b ∷ []) Outside
value_byte_passes b =
    elim (cases_Bool (eqb b 36)) [
      | inl e ↦ subst (λ (c : ℕ). Passes escapes Outside (value_byte_text c) (value_piece c ∷ []) Outside) (sym (eqb-true b 36 e)) (record { state = refl; given = refl })
      | inr e ↦ rw e (record { state = rw e refl; given = rw e refl })
    ]

value_rest_passes : (v : List ℕ) → Passes escapes Outside (value_rest_text v) (value_rest_pieces v) Outside
value_rest_passes [] = passes_none escapes Outside
value_rest_passes (b ∷ bs) = passes_both escapes Outside (value_byte_text b) (value_piece b ∷ []) Outside (value_rest_text bs) (value_rest_pieces bs) Outside (value_byte_passes b) (value_rest_passes bs)

first_byte_passes : (b : ℕ) → Passes escapes Outside (cond (b == 32) (36 ∷ 32 ∷ []) (value_byte_text b)) (first_value_piece b ∷ []) Outside
first_byte_passes b =
    elim (cases_Bool (eqb b 32)) [
      | inl e ↦ rw e (record { state = refl; given = refl })
      | inr e ↦ rw e (value_byte_passes b)
    ]

value_text-parts : (b : ℕ) (bs : List ℕ) → value_text (b ∷ bs) ≡ cond (b == 32) (36 ∷ 32 ∷ []) (value_byte_text b) ++ value_rest_text bs
unfolding value_text
value_text-parts b bs = elim (cases_Bool (eqb b 32)) [ inl e ↦ rw (e, eqb-true b 32 e) refl | inr e ↦ rw e refl ]

pub value_passes : (v : List ℕ) → Passes escapes Outside (value_text v) (value_pieces v) Outside
unfolding value_text
value_passes [] = passes_none escapes Outside
value_passes (b ∷ bs) = rw (value_text-parts b bs) (passes_both escapes Outside (cond (b == 32) (36 ∷ 32 ∷ []) (value_byte_text b)) (first_value_piece b ∷ []) Outside (value_rest_text bs) (value_rest_pieces bs) Outside (first_byte_passes b) (value_rest_passes bs))

value_piece_text : (scope : Scope) (b : ℕ) → piece_text scope (value_piece b) ≡ b ∷ []
value_piece_text scope b = elim (cases_Bool (eqb b 36)) [ inl e ↦ rw e refl | inr e ↦ rw e refl ]

first_piece_text : (scope : Scope) (b : ℕ) → piece_text scope (first_value_piece b) ≡ b ∷ []
first_piece_text scope b = elim (cases_Bool (eqb b 32)) [ inl e ↦ rw (e, eqb-true b 32 e) refl | inr e ↦ rw e (value_piece_text scope b) ]

value_rest_again : (scope : Scope) (v : List ℕ) → expansion scope (value_rest_pieces v) ≡ v
value_rest_again scope [] = refl
value_rest_again scope (b ∷ bs) = ap (λ v. v ++ expansion scope (value_rest_pieces bs)) (value_piece_text scope b) ∙ ap (λ v. b ∷ v) (value_rest_again scope bs)

pub value_again : (scope : Scope) (v : List ℕ) → expansion scope (value_pieces v) ≡ v
value_again scope [] = refl
value_again scope (b ∷ bs) = ap (λ v. v ++ expansion scope (value_rest_pieces bs)) (first_piece_text scope b) ∙ ap (λ v. b ∷ v) (value_rest_again scope bs)

-- ---- a value begins with no blank

value_piece_no_blank : (b : ℕ) → eqb b 32 ≡ false → is_plain 32 (value_piece b) ≡ false
value_piece_no_blank b h = elim (cases_Bool (eqb b 36)) [ inl e ↦ rw e refl | inr e ↦ rw e h ]

first_piece_no_blank : (b : ℕ) → is_plain 32 (first_value_piece b) ≡ false
first_piece_no_blank b = elim (cases_Bool (eqb b 32)) [ inl e ↦ rw e refl | inr e ↦ rw e (value_piece_no_blank b e) ]

pub value_no_blanks : (v : List ℕ) → without_blanks (value_pieces v) ≡ value_pieces v
value_no_blanks [] = refl
value_no_blanks (b ∷ bs) = rw (first_piece_no_blank b) refl
