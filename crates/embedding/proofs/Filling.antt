-- How a room is filled.
use Rattle.std.proofs.Common.{◌≡◌, ℕ, ◌+◌, ◌-◌, ◌<◌, ◌≤◌, min, Bool, true, false, nat_le, get_or, List, [], ◌∷◌, ◌++◌, map, take, drop, length, refl, sym, ap, subst, ◌∙◌, arith}
use Rattle.std.proofs.Common.{append_assoc, append-nil, length-append}
use Rattle.std.specs.List.{flat_map}
use Rattle.std.specs.Int.{to_le_bytes, w64}
use Rattle.std.proofs.lemmas.Grind.{flat_map-append}
use Rattle.std.proofs.lemmas.Bool.Decides.{nat_tests}
use Rattle.std.proofs.lemmas.List.{take_at, take_all, take-append-le, take-append-drop, take_more, drop_all, drop-drop, length-take-le, length-take, length-drop, map-append}
use borrow.Rule.Slice.PartMut.{put_mid}
use Rattle.byte_devices.specs.declared.piece.Piece.{Piece}
use Rattle.byte_devices.specs.PiecesView.{piece_view, pieces_view}
use Rattle.embedding.specs.Encoding.{IsFilled, bytes_of, kind_byte, piece_bytes}

-- where no room is left
pub filled_past : (room before bytes : List ℕ) → length room ≤ length before → IsFilled room before → IsFilled room (before ++ bytes)
filled_past room before bytes past f =
    let more : length room ≤ length (before ++ bytes) = omega (arith, past, length-append before bytes) in
    take_all (length (before ++ bytes)) room more ∙ sym (take_all (length before) room past) ∙ f ∙ sym (take-append-le (length room) before bytes past)

begun : (room before : List ℕ) → length before ≤ length room → IsFilled room before → take (length before) room ≡ before
begun room before within f = f ∙ take_all (length room) before within

fits : (room before bytes rest : List ℕ) → room ≡ (before ++ bytes) ++ rest → IsFilled room (before ++ bytes)
fits room before bytes rest e =
    let long : length (before ++ bytes) ≤ length room = omega (arith, ap length e, length-append (before ++ bytes) rest) in
    ap (take (length (before ++ bytes))) e ∙ take_at (before ++ bytes) rest (length (before ++ bytes)) refl ∙ sym (take_all (length room) (before ++ bytes) long)

cut : (room before part rest : List ℕ) → room ≡ before ++ part → IsFilled room (before ++ (part ++ rest))
cut room before part rest e =
    let long : length room ≤ length (before ++ (part ++ rest)) =
    omega (arith, ap length e, length-append before part, length-append before (part ++ rest), length-append part rest) in
    take_all (length (before ++ (part ++ rest))) room long ∙ e ∙ sym (take_at (before ++ part) rest (length (before ++ part)) refl)
    ∙ ap (take (length (before ++ part))) (append_assoc before part rest) ∙ ap (λ n. take n (before ++ (part ++ rest))) (ap length (sym e))

pub filled_more : (room before bytes ys : List ℕ) (at c k : ℕ) → length before ≡ at → at < length room → c ≡ min (length bytes) (length room - at)
    → ys ≡ take c bytes → k ≡ c → IsFilled room before → IsFilled (put_mid at k room ys) (before ++ bytes)
filled_more room before bytes ys at c k b less m y e f = by (nat_le (length bytes) (length room - at)) refl
  where
    front : take at room ≡ before
    front = ap (λ n. take n room) (sym b) ∙ begun room before (omega arith) f

    new : put_mid at k room ys ≡ before ++ (take c bytes ++ drop (at + c) room)
    new =
        ap (λ s. s ++ (ys ++ drop k (drop at room))) front ∙ ap (λ s. before ++ (s ++ drop k (drop at room))) y
        ∙ ap (λ n. before ++ (take c bytes ++ drop n (drop at room))) e ∙ ap (λ s. before ++ (take c bytes ++ s)) (drop-drop c at room)

    by : (z : Bool) → nat_le (length bytes) (length room - at) ≡ z → IsFilled (put_mid at k room ys) (before ++ bytes)
    by true t =
        let within : length bytes ≤ length room - at = grind (arith, nat_tests) in
        let all : length bytes ≤ c = omega arith in
        fits _ before bytes (drop (at + c) room)
        (new ∙ ap (λ s. before ++ (s ++ drop (at + c) room)) (take_all c bytes all) ∙ sym (append_assoc before bytes (drop (at + c) room)))
    by false t =
        let past : length room - at < length bytes = grind (arith, nat_tests) in
        let none : length room ≤ at + c = omega arith in
        ap (λ n. take n (put_mid at k room ys)) (ap length (ap (λ s. before ++ s) (sym (take-append-drop c bytes))))
        ∙ cut _ before (take c bytes) (drop c bytes)
        (new ∙ ap (λ s. before ++ (take c bytes ++ s)) (drop_all (at + c) room none) ∙ ap (λ s. before ++ s) (append-nil (take c bytes)))
        ∙ ap (λ s. take (length (put_mid at k room ys)) (before ++ s)) (take-append-drop c bytes)

-- one piece more
pub pieces_more : (pieces : List Piece) (i : ℕ) (p : Piece) → i < length pieces → p ≡ get_or pieces i p
    → bytes_of (pieces_view (take (i + 1) pieces)) ≡ bytes_of (pieces_view (take i pieces)) ++ piece_bytes (piece_view p)
unfolding bytes_of
pieces_more pieces i p less is =
    ap (λ ps. flat_map piece_bytes (pieces_view ps)) (take_more pieces i p less ∙ ap (λ x. take i pieces ++ x ∷ []) (sym is))
    ∙ ap (flat_map piece_bytes) (map-append piece_view (take i pieces) (p ∷ []))
    ∙ flat_map-append piece_bytes (pieces_view (take i pieces)) (piece_view p ∷ [])
    ∙ ap (λ s. flat_map piece_bytes (pieces_view (take i pieces)) ++ s) (append-nil (piece_bytes (piece_view p)))

none_taken : (n : ℕ) → take n (bytes_of []) ≡ []
unfolding bytes_of
none_taken n = let none : List ℕ = [] in take_all n none (omega arith)

pub nothing_yet : (room : List ℕ) → IsFilled room (bytes_of [])
unfolding bytes_of
nothing_yet room = sym (none_taken (length room))
