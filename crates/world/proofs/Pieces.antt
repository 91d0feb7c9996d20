-- A file that is read piece by piece.
use Rattle.std.proofs.Common.{◌≡◌, ℕ, ◌+◌, ◌-◌, ◌≤◌, ◌<◌, List, [], ◌++◌, length, take, drop, sym, ap, subst, ◌∙◌, arith}
use Rattle.std.proofs.Math.Seq.{take-add}
use Rattle.std.proofs.lemmas.List.{drop_at, take-append-le, length-drop, length-take, length-take-le}
use Rattle.std.proofs.lemmas.Slice.{take-put_mid_below}
use Rattle.ports.specs.Reading.{Given, GivenWhole, more, full, ended}
use borrow.Rule.Slice.PartMut.{put_mid, post_of}

-- what a buffer has in front after one piece more
pub piece_on : (buffer piece : List ℕ) (at k n : ℕ) → at ≤ length buffer → n ≤ length piece
    → take (at + n) (put_mid at k buffer piece) ≡ take at buffer ++ take n piece
piece_on buffer piece at k n within fits =
    take-add at n (put_mid at k buffer piece)
    ∙ ap (λ l. l ++ take n (drop at (put_mid at k buffer piece))) (take-put_mid_below at k buffer piece at (omega arith) within)
    ∙ ap (λ l. take at buffer ++ l) (ap (take n) (drop_at (take at buffer) (piece ++ post_of at k buffer) at (omega (arith, length-take at buffer))) ∙ take-append-le n piece (post_of at k buffer) fits)

-- one piece more of the file
pub read_more : (buffer piece file : List ℕ) (at k n : ℕ) → at ≤ length buffer → n ≤ length piece → take at buffer ≡ take at file → take n piece ≡ take n (drop at file)
    → take (at + n) (put_mid at k buffer piece) ≡ take (at + n) file
read_more buffer piece file at k n within fits before here =
    take-add at n (put_mid at k buffer piece)
    ∙ ap (λ l. l ++ take n (drop at (put_mid at k buffer piece))) (take-put_mid_below at k buffer piece at (omega arith) within ∙ before)
    ∙ ap (λ l. take at file ++ l) (ap (take n) (drop_at (take at buffer) (piece ++ post_of at k buffer) at (omega (arith, length-take at buffer))) ∙ take-append-le n piece (post_of at k buffer) fits ∙ here)
    ∙ sym (take-add at n file)

-- how many bytes are asked for behind the first ones
abbrev pub room : List ℕ → ℕ → ℕ
room buffer at = length (take (length buffer - at) (drop at buffer))

room_is : (buffer : List ℕ) (at : ℕ) → at ≤ length buffer → at + room buffer at ≡ length buffer
room_is buffer at within =
    let rest : length (drop at buffer) ≡ length buffer - at = length-drop at buffer in
    omega (arith, length-take-le (length buffer - at) (drop at buffer) (omega arith))

module _ {T : Type 0} (gives : T → List ℕ → ℕ → ℕ → List ℕ → T → Type 0) (path : List ℕ) (size : ℕ) (start : T) where
  -- a further call gave a piece
  pub given_more : (buffer slice : List ℕ) (at k n : ℕ) (t u : T) → length buffer ≡ size → at ≤ length buffer → n ≤ length slice → n ≤ room buffer at
      → Given gives path size start (take at buffer) t → gives t path at (room buffer at) (take n slice) u
      → Given gives path size start (take (at + n) (put_mid at k buffer slice)) u
  given_more buffer slice at k n t u same within fits few before gave =
      let place : length (take at buffer) ≡ at = length-take-le at buffer within in
      subst (λ b. Given gives path size start b u) (sym (piece_on buffer slice at k n within fits))
      (more (take at buffer) (take n slice) (room buffer at) t u before (omega (arith, place, room_is buffer at within))
      (subst (λ a. gives t path a (room buffer at) (take n slice) u) (sym place) gave) (omega (arith, length-take-le n slice fits)))

  -- a further call gave nothing
  pub given_end : (buffer slice : List ℕ) (at k n : ℕ) (t u : T) → length buffer ≡ size → at < length buffer → n ≡ 0
      → Given gives path size start (take at buffer) t → gives t path at (room buffer at) (take n slice) u
      → GivenWhole gives path size start (take at (put_mid at k buffer slice)) u
  given_end buffer slice at k n t u same within none before gave =
      let place : length (take at buffer) ≡ at = length-take-le at buffer (omega arith) in
      subst (λ b. GivenWhole gives path size start b u) (sym (take-put_mid_below at k buffer slice at (omega arith) (omega arith)))
      (ended (take at buffer) (room buffer at) t u before (omega (arith, room_is buffer at (omega arith))) (omega (arith, place, room_is buffer at (omega arith)))
      (subst (λ a. gives t path a (room buffer at) [] u) (sym place) (subst (λ m. gives t path at (room buffer at) (take m slice) u) none gave)))

  -- the buffer is full
  pub given_full : (buffer : List ℕ) (at : ℕ) (t : T) → length buffer ≡ size → at ≤ length buffer → length buffer ≤ at
      → Given gives path size start (take at buffer) t → GivenWhole gives path size start (take at buffer) t
  given_full buffer at t same within beyond before = full (take at buffer) t before (omega (arith, length-take-le at buffer within))

-- nothing is given behind the size
pub given_within : {T : Type 0} {gives : T → List ℕ → ℕ → ℕ → List ℕ → T → Type 0} {path : List ℕ} {size : ℕ} {start : T} {bytes : List ℕ} {t : T}
    → GivenWhole gives path size start bytes t → length bytes ≤ size
given_within (full bytes t before e) = omega (arith, e)
given_within (ended bytes room t u before some fits gave) = omega (arith, fits)

-- the same, with the size and the bytes written otherwise
pub given_same : {T : Type 0} (gives : T → List ℕ → ℕ → ℕ → List ℕ → T → Type 0) (path : List ℕ) (size n : ℕ) (start : T) (bytes l : List ℕ) (t : T)
    → size ≡ n → l ≡ bytes → GivenWhole gives path size start bytes t → GivenWhole gives path n start l t
given_same gives path size n start bytes l t same is given =
    subst (λ b. GivenWhole gives path n start b t) (sym is) (subst (λ m. GivenWhole gives path m start bytes t) same given)
