-- The last of the pieces that are kept.
use Rattle.std.proofs.Common.{◌≡◌, ℕ, ◌+◌, ◌-◌, ◌<◌, ◌≤◌, ◌==◌, get_or, set, true, false, List, [], ◌∷◌, ◌++◌, take, length, Result, Ok, Err, Vec}
use Rattle.std.proofs.Common.{sym, ap, subst, ◌∙◌, arith, suc}
use Rattle.std.specs.Prelude.{OnOk, OnErr}
use Rattle.std.specs.declared.alloc.AllocError.{AllocError}
use Rattle.std.specs.Global.{Global}
use Rattle.std.proofs.lemmas.List.{map-append, take_more, take_all, set_split, drop_all, get_or_default}
use Rattle.byte_devices.specs.declared.piece.PieceKind.{PieceKind}
use Rattle.byte_devices.specs.declared.piece.Piece.{Piece}
use Rattle.byte_devices.specs.Pieces.{PieceData, piece, goes_on, with_bytes}
use Rattle.byte_devices.specs.PiecesView.{piece_view, pieces_view}
use Rattle.byte_devices.proofs.KeptPieces.{bytes_last, own_piece, first_piece}

pub on_err : {P : Type 0} (r : Result (Unit {0}) AllocError) → P → OnErr r P
on_err (Ok x) p = tt
on_err (Err e) p = p

last_is : (items : List Piece) (n : ℕ) (p : Piece) → n ≡ length items → 0 < n → p ≡ get_or items (n - 1) p
    → pieces_view items ≡ pieces_view (take (n - 1) items) ++ piece_view p ∷ []
last_is items n p e some is =
    let within : n - 1 < length items = omega arith in
    let long : length items ≤ n - 1 + 1 = omega arith in
    ap pieces_view (sym (take_all (n - 1 + 1) items long) ∙ take_more items (n - 1) p within ∙ ap (λ x. take (n - 1) items ++ x ∷ []) (sym is))
    ∙ map-append piece_view (take (n - 1) items) (p ∷ [])

last_set : (items : List Piece) (n : ℕ) (p : Piece) → n ≡ length items → 0 < n
    → pieces_view (set items (n - 1) p) ≡ pieces_view (take (n - 1) items) ++ piece_view p ∷ []
last_set items n p e some =
    let within : n - 1 < length items = omega arith in
    let long : length items ≤ suc (n - 1) = omega arith in
    ap pieces_view (set_split items (n - 1) p within ∙ ap (λ x. take (n - 1) items ++ p ∷ x) (drop_all (suc (n - 1)) items long))
    ∙ map-append piece_view (take (n - 1) items) (p ∷ [])

-- nothing was put behind it
pub kept_as_it_was : (items : List Piece) (n : ℕ) (p : Piece) (new : Vec ℕ Global) → n ≡ length items → 0 < n → p ≡ get_or items (n - 1) p → new.items ≡ p.bytes.items
    → pieces_view (set items (n - 1) (record { kind = p.kind; bytes = new })) ≡ pieces_view items
kept_as_it_was items n p new e some is same =
    last_set items n (record { kind = p.kind; bytes = new }) e some ∙ ap (λ b. pieces_view (take (n - 1) items) ++ piece p.kind b ∷ []) same
    ∙ sym (last_is items n p e some is)

-- bytes were put behind it
pub went_on : (kind : PieceKind) (items : List Piece) (n : ℕ) (x p : Piece) (new : Vec ℕ Global) (bytes : List ℕ) → n ≡ length items → 0 < n
    → x ≡ get_or items (n - 1) x → p ≡ get_or items (n - 1) p → goes_on x.kind kind ≡ true → new.items ≡ p.bytes.items ++ bytes
    → pieces_view (set items (n - 1) (record { kind = p.kind; bytes = new })) ≡ with_bytes kind (pieces_view items) bytes
went_on kind items n x p new bytes e some xs is h more =
    let within : n - 1 < length items = omega arith in
    let same : x ≡ p = xs ∙ get_or_default items (n - 1) x p within ∙ sym is in
    let goes : goes_on p.kind kind ≡ true = subst (λ y. goes_on y.kind kind ≡ true) same h in
    last_set items n (record { kind = p.kind; bytes = new }) e some ∙ ap (λ b. pieces_view (take (n - 1) items) ++ piece p.kind b ∷ []) more
    ∙ sym (bytes_last kind (pieces_view (take (n - 1) items)) (piece_view p) bytes goes)
    ∙ ap (λ v. with_bytes kind v bytes) (sym (last_is items n p e some is))

-- bytes are a piece of their own behind the last
pub behind_last : (kind : PieceKind) (items : List Piece) (n : ℕ) (x : Piece) (bytes : List ℕ) → n ≡ length items → 0 < n → x ≡ get_or items (n - 1) x
    → goes_on x.kind kind ≡ false → goes_on kind kind ≡ true → (length bytes == 0) ≡ false
    → pieces_view items ++ piece kind bytes ∷ [] ≡ with_bytes kind (pieces_view items) bytes
behind_last kind items n x bytes e some is h k long =
    ap (λ v. v ++ piece kind bytes ∷ []) (last_is items n x e some is)
    ∙ sym (own_piece kind (pieces_view (take (n - 1) items)) (piece_view x) bytes long h k)
    ∙ ap (λ v. with_bytes kind v bytes) (sym (last_is items n x e some is))

-- or the first piece
pub as_first : (kind : PieceKind) (items : List Piece) (bytes : List ℕ) → length items ≡ 0 → goes_on kind kind ≡ true → (length bytes == 0) ≡ false
    → pieces_view items ++ piece kind bytes ∷ [] ≡ with_bytes kind (pieces_view items) bytes
as_first kind [] bytes e k long = sym (first_piece kind bytes long k)
as_first kind (x ∷ items) bytes e k long = absurd (omega arith)

pub on_kept : (r : Result (Unit {0}) AllocError) (new old more : List PieceData) → OnOk r (new ≡ old) → old ≡ more → OnOk r (new ≡ more)
on_kept (Ok x) new old more k e = k ∙ e
on_kept (Err f) new old more k e = tt
