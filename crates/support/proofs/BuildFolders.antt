-- Paths, cut at their slashes and joined again.
use Rattle.std.proofs.Common.{◌≡◌, ◌<◌, ◌∙◌, ◌++◌, ◌==◌, ◌&&◌, ap, refl, arith, ℕ, Bool, true, false, not, nat_le, ◌≤◌, List, [], ◌∷◌}
use Rattle.std.proofs.Common.{length, filter, map, ◌||◌}
use Rattle.std.proofs.lemmas.Bool.Decides.{nat_tests}
use Rattle.std.specs.List.{onto_first, join_with_byte, list_all, list_any}
use Rattle.support.specs.paths.Paths.{parts_of}
use Rattle.support.specs.paths.BuildFolders.{are_below, is_idle, is_upward, is_tidy_folder, leading_parts, tidy_path}

-- the piece has no slash
abbrev pub lacks_slash : List ℕ → Bool
lacks_slash piece = not (list_any (λ b. b == 47) piece)

onto_lacks : (x : ℕ) (pieces : List (List ℕ)) → (x == 47) ≡ false → list_all lacks_slash pieces ≡ true
    → list_all lacks_slash (onto_first x pieces) ≡ true
onto_lacks x [] other all = rw other refl
onto_lacks x (piece ∷ pieces) other all = rw other all

-- no piece of a path has a slash
pub pieces_lack_slash : (path : List ℕ) → list_all lacks_slash (parts_of path) ≡ true
pieces_lack_slash [] = refl
pieces_lack_slash (x ∷ path) = go (x == 47) refl (pieces_lack_slash path)
  where
    go : (t : Bool) → (x == 47) ≡ t → list_all lacks_slash (parts_of path) ≡ true → list_all lacks_slash (parts_of (x ∷ path)) ≡ true
    go true is rest = rw is rest
    go false is rest = rw is (onto_lacks x (parts_of path) is rest)

-- what holds of each element holds of each that a filter keeps
pub list_all-filter : {X : Type 0} (p q : X → Bool) (xs : List X) → list_all p xs ≡ true → list_all p (filter q xs) ≡ true
list_all-filter p q [] all = refl
list_all-filter p q (x ∷ xs) all = go (p x) (q x) refl refl (λ rest. list_all-filter p q xs rest)
  where
    go : (s t : Bool) → p x ≡ s → q x ≡ t → (list_all p xs ≡ true → list_all p (filter q xs) ≡ true) → list_all p (filter q (x ∷ xs)) ≡ true
    go true true is keeps rest = rw (keeps, is) (rest (rw is at all))
    go true false is keeps rest = rw keeps (rest (rw is at all))
    go false t is keeps rest =
        let bad : false ≡ true = rw is at all in
        cc

-- none is left of those that a filter leaves out
pub none_left : {X : Type 0} (p : X → Bool) (xs : List X) → list_any p (filter (λ x. not (p x)) xs) ≡ false
none_left p [] = refl
none_left p (x ∷ xs) = go (p x) refl (none_left p xs)
  where
    go : (t : Bool) → p x ≡ t → list_any p (filter (λ y. not (p y)) xs) ≡ false → list_any p (filter (λ y. not (p y)) (x ∷ xs)) ≡ false
    go true is rest = rw is rest
    go false is rest = rw (is, is) rest

-- a piece without slashes is a path's one piece
one_piece : (piece : List ℕ) → lacks_slash piece ≡ true → parts_of piece ≡ piece ∷ []
one_piece [] lacks = refl
one_piece (x ∷ piece) lacks = go (x == 47) refl (one_piece piece)
  where
    go : (t : Bool) → (x == 47) ≡ t → (lacks_slash piece ≡ true → parts_of piece ≡ piece ∷ []) → parts_of (x ∷ piece) ≡ (x ∷ piece) ∷ []
    go true is rest =
        let bad : false ≡ true = rw is at lacks in
        cc
    go false is rest = rw (is, rest (rw is at lacks)) refl

-- and stands first where a slash follows it
first_piece : (piece path : List ℕ) → lacks_slash piece ≡ true → parts_of (piece ++ (47 ∷ path)) ≡ piece ∷ parts_of path
first_piece [] path lacks = refl
first_piece (x ∷ piece) path lacks = go (x == 47) refl (first_piece piece path)
  where
    go : (t : Bool) → (x == 47) ≡ t → (lacks_slash piece ≡ true → parts_of (piece ++ (47 ∷ path)) ≡ piece ∷ parts_of path)
        → parts_of ((x ∷ piece) ++ (47 ∷ path)) ≡ (x ∷ piece) ∷ parts_of path
    go true is rest =
        let bad : false ≡ true = rw is at lacks in
        cc
    go false is rest = rw (is, rest (rw is at lacks)) refl

both_halves : (a b : Bool) → (a && b) ≡ true → (a ≡ true) × (b ≡ true)
both_halves true b e = (refl, e)
both_halves false b e = cc

-- parts that are joined by slashes are the pieces of what they make
pub parts_of-joined : (parts : List (List ℕ)) → 0 < length parts → list_all lacks_slash parts ≡ true
    → parts_of (join_with_byte 47 parts) ≡ parts
parts_of-joined [] some all = absurd (omega arith)
parts_of-joined (x ∷ []) some all = one_piece x (both_halves (lacks_slash x) true all).0
parts_of-joined (x ∷ y ∷ parts) some all =
    let halves = both_halves (lacks_slash x) (list_all lacks_slash (y ∷ parts)) all in
    first_piece x (join_with_byte 47 (y ∷ parts)) halves.0
    ∙ ap (λ ps. x ∷ ps) (parts_of-joined (y ∷ parts) (omega arith) halves.1)

-- what a path is cut to and joined from again is tidy, where its parts lead to a folder below
pub tidy_is_tidy : (path : List ℕ) → are_below (leading_parts path) ≡ true → is_tidy_folder (tidy_path path) ≡ true
tidy_is_tidy path below =
    let parts = leading_parts path in
    let count = (both_halves (not (list_any is_upward parts)) (nat_le 1 (length parts) && nat_le (length parts) 64) below).1 in
    let at_least : nat_le 1 (length parts) ≡ true = (both_halves (nat_le 1 (length parts)) (nat_le (length parts) 64) count).0 in
    let some : 0 < length parts = grind (arith, nat_tests, at_least) in
    let same : parts_of (tidy_path path) ≡ parts =
    parts_of-joined parts some (list_all-filter lacks_slash (λ piece. not (is_idle piece)) (parts_of path) (pieces_lack_slash path)) in
    rw (same, below, none_left is_idle (parts_of path)) refl

-- a tidy folder has at most 64 pieces
pub pieces-le : (path : List ℕ) → is_tidy_folder path ≡ true → length (parts_of path) ≤ 64
pieces-le path tidy =
    let pieces = parts_of path in
    let below = (both_halves (are_below pieces) (not (list_any is_idle pieces)) tidy).0 in
    let count = (both_halves (not (list_any is_upward pieces)) (nat_le 1 (length pieces) && nat_le (length pieces) 64) below).1 in
    let at_most : nat_le (length pieces) 64 ≡ true = (both_halves (nat_le 1 (length pieces)) (nat_le (length pieces) 64) count).1 in
    grind (arith, nat_tests, at_most)

-- the parts of a path that lead to a folder below, joined, are tidy
pub joined_is_tidy : (path joined : List ℕ) (parts : List (List ℕ)) → parts ≡ leading_parts path → are_below parts ≡ true
    → joined ≡ join_with_byte 47 parts → is_tidy_folder joined ≡ true
joined_is_tidy path joined parts same below is =
    rw (is, same) (tidy_is_tidy path (rw same at below))

pub list_any-map : {X Y : Type 0} (p : Y → Bool) (f : X → Y) (xs : List X) → list_any (λ x. p (f x)) xs ≡ list_any p (map f xs)
list_any-map p f [] = refl
list_any-map p f (x ∷ xs) = ap (λ b. p (f x) || b) (list_any-map p f xs)
