-- The tokens of a build line.
use Rattle.std.proofs.Common.{◌≡◌, ℕ, true, eqb, ◌||◌, List, [], ◌∷◌, ◌++◌, Some, refl, sym, ap, ◌∙◌, append_assoc, append-nil, inl, inr}
use Rattle.std.proofs.lemmas.Bool.{and_parts, or_parts, cases_Bool}
use Rattle.ninja.specs.Machine.{before}
use Rattle.ninja.specs.Pieces.{Piece, Plain}
use Rattle.ninja.specs.Lines.{Token, Path, Colon, Bar, Bars, Place, Between, Within, Barred, IsPart, kind_of, tokens, tokens_of}
use Rattle.ninja.specs.Escapes.{wants_dollar}
use Rattle.std.specs.List.{list_all}
use Rattle.build.specs.edge.Holding.{path_byte_held, path_held, is_path}
use Rattle.ninja.proofs.Machines.{Passes, passes_none, passes_both, passes_first, passes_to, passes_all}
use Rattle.ninja.proofs.ShellWords.{other_than}
use Rattle.ninja.proofs.Pieces.{path_piece, path_pieces}

-- what is not given yet
abbrev pub pending : Place → List Token
pending Between = []
pending (Within pieces) = Path pieces ∷ []
pending Barred = Bar ∷ []

-- wherever these pieces stand, they add these tokens
pub record AddsFrom (ps : List Piece) (ts : List Token) (a : Place) : Type 0 where
  pub place : Place
  pub given : List Token
  pub passes : Passes tokens a ps given place
  pub all : given ++ pending place ≡ pending a ++ ts

abbrev pub Adds : List Piece → List Token → Type 0
Adds ps ts = (a : Place) → AddsFrom ps ts a

pub adds_none : Adds [] []
adds_none a = record { place = a; given = []; passes = passes_none tokens a; all = sym (append-nil (pending a)) }

pub adds_both : (ps qs : List Piece) (ts us : List Token) → Adds ps ts → Adds qs us → Adds (ps ++ qs) (ts ++ us)
adds_both ps qs ts us f g a =
    let p = f a in
    let q = g p.place in
    record {
      place = q.place;
      given = p.given ++ q.given;
      passes = passes_both tokens a ps p.given p.place qs q.given q.place p.passes q.passes;
      all = append_assoc p.given q.given (pending q.place) ∙ ap (λ v. p.given ++ v) q.all ∙ sym (append_assoc p.given (pending p.place) us) ∙ ap (λ v. v ++ us) p.all ∙ append_assoc (pending a) ts us;
    }

at_end_pending : (a : Place) → tokens.ends a ≡ Some (pending a)
at_end_pending Between = refl
at_end_pending (Within pieces) = refl
at_end_pending Barred = refl

pub adds_all : (ps : List Piece) (ts : List Token) → Adds ps ts → tokens_of ps ≡ Some ts
adds_all ps ts f =
    let p = f Between in
    passes_all tokens Between ps p.given p.place p.passes ∙ ap (before p.given) (at_end_pending p.place) ∙ ap Some p.all

pub adds_colon : Adds (Plain 58 ∷ []) (Colon ∷ [])
adds_colon Between = record { place = Between; given = Colon ∷ []; passes = record { state = refl; given = refl }; all = refl }
adds_colon (Within pieces) = record { place = Between; given = Path pieces ∷ Colon ∷ []; passes = record { state = refl; given = refl }; all = refl }
adds_colon Barred = record { place = Between; given = Bar ∷ Colon ∷ []; passes = record { state = refl; given = refl }; all = refl }

pub adds_bar : Adds (Plain 32 ∷ Plain 124 ∷ []) (Bar ∷ [])
adds_bar Between = record { place = Barred; given = []; passes = record { state = refl; given = refl }; all = refl }
adds_bar (Within pieces) = record { place = Barred; given = Path pieces ∷ []; passes = record { state = refl; given = refl }; all = refl }
adds_bar Barred = record { place = Barred; given = Bar ∷ []; passes = record { state = refl; given = refl }; all = refl }

pub adds_bars : Adds (Plain 32 ∷ Plain 124 ∷ Plain 124 ∷ []) (Bars ∷ [])
adds_bars Between = record { place = Between; given = Bars ∷ []; passes = record { state = refl; given = refl }; all = refl }
adds_bars (Within pieces) = record { place = Between; given = Path pieces ∷ Bars ∷ []; passes = record { state = refl; given = refl }; all = refl }
adds_bars Barred = record { place = Between; given = Bar ∷ Bars ∷ []; passes = record { state = refl; given = refl }; all = refl }

-- ---- paths

pub held_part : (b : ℕ) → path_byte_held b ≡ true → kind_of (path_piece b) ≡ IsPart
held_part b h =
    elim (cases_Bool (wants_dollar b)) [
      | inl e ↦ rw e refl
      | inr e ↦
          let d = or_parts (eqb b 36) (eqb b 32 || eqb b 58) e in
          let f = or_parts (eqb b 32) (eqb b 58) d.1 in
          rw (e, f.0, f.1, other_than path_byte_held 124 b refl h) refl
    ]

within_step : (qs : List Piece) (p : Piece) → kind_of p ≡ IsPart → tokens.next (Within qs) p ≡ Within (qs ++ p ∷ [])
within_step qs p e = rw e refl

within_gives : (qs : List Piece) (p : Piece) → kind_of p ≡ IsPart → tokens.gives (Within qs) p ≡ []
within_gives qs p e = rw e refl

path_within : (qs : List Piece) (p : List ℕ) → path_held p ≡ true → Passes tokens (Within qs) (path_pieces p) [] (Within (qs ++ path_pieces p))
path_within qs [] h = passes_to tokens (Within qs) [] [] (Within qs) (Within (qs ++ [])) (rw (append-nil qs) refl) (passes_none tokens (Within qs))
path_within qs (b ∷ bs) h =
    let k = and_parts (path_byte_held b) (path_held bs) h in
    let e = held_part b k.0 in
    passes_to tokens (Within qs) (path_pieces (b ∷ bs)) [] (Within ((qs ++ path_piece b ∷ []) ++ path_pieces bs)) (Within (qs ++ path_piece b ∷ path_pieces bs)) (rw (append_assoc qs (path_piece b ∷ []) (path_pieces bs)) refl)
    (passes_first tokens (Within qs) (path_piece b) [] (Within (qs ++ path_piece b ∷ [])) (path_pieces bs) [] (Within ((qs ++ path_piece b ∷ []) ++ path_pieces bs)) (within_step qs (path_piece b) e) (within_gives qs (path_piece b) e) (path_within (qs ++ path_piece b ∷ []) bs k.1))

between_step : (p : Piece) → kind_of p ≡ IsPart → tokens.next Between p ≡ Within (p ∷ [])
between_step p e = rw e refl

between_gives : (p : Piece) → kind_of p ≡ IsPart → tokens.gives Between p ≡ []
between_gives p e = rw e refl

path_between : (p : List ℕ) → is_path p ≡ true → Passes tokens Between (path_pieces p) [] (Within (path_pieces p))
path_between [] h = absurd cc
path_between (b ∷ bs) h =
    let k = and_parts (path_byte_held b) (path_held bs) h in
    let e = held_part b k.0 in
    passes_first tokens Between (path_piece b) [] (Within (path_piece b ∷ [])) (path_pieces bs) [] (Within (path_piece b ∷ path_pieces bs)) (between_step (path_piece b) e) (between_gives (path_piece b) e) (path_within (path_piece b ∷ []) bs k.1)

blank_passes : (a : Place) → Passes tokens a (Plain 32 ∷ []) (pending a) Between
blank_passes Between = record { state = refl; given = refl }
blank_passes (Within pieces) = record { state = refl; given = refl }
blank_passes Barred = record { state = refl; given = refl }

-- behind a blank, what passes as one path
pub adds_part : (ps : List Piece) → Passes tokens Between ps [] (Within ps) → Adds (Plain 32 ∷ ps) (Path ps ∷ [])
adds_part ps p a = record {
  place = Within ps;
  given = pending a ++ [];
  passes = passes_both tokens a (Plain 32 ∷ []) (pending a) Between ps [] (Within ps) (blank_passes a) p;
  all = ap (λ v. v ++ Path ps ∷ []) (append-nil (pending a));
}

pub adds_path : (p : List ℕ) → is_path p ≡ true → Adds (Plain 32 ∷ path_pieces p) (Path (path_pieces p) ∷ [])
adds_path p h = adds_part (path_pieces p) (path_between p h)

abbrev pub paths_pieces : List (List ℕ) → List Piece
paths_pieces [] = []
paths_pieces (p ∷ ps) = (Plain 32 ∷ path_pieces p) ++ paths_pieces ps

abbrev pub path_tokens : List (List Piece) → List Token
path_tokens [] = []
path_tokens (p ∷ ps) = Path p ∷ path_tokens ps

abbrev pub all_path_pieces : List (List ℕ) → List (List Piece)
all_path_pieces [] = []
all_path_pieces (p ∷ ps) = path_pieces p ∷ all_path_pieces ps

pub adds_paths : (ps : List (List ℕ)) → list_all is_path ps ≡ true → Adds (paths_pieces ps) (path_tokens (all_path_pieces ps))
adds_paths [] h = adds_none
adds_paths (p ∷ ps) h =
    let k = and_parts (is_path p) (list_all is_path ps) h in
    adds_both (Plain 32 ∷ path_pieces p) (paths_pieces ps) (Path (path_pieces p) ∷ []) (path_tokens (all_path_pieces ps)) (adds_path p k.0) (adds_paths ps k.1)
