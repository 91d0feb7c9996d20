-- Compares texts as bytes, and looks them up in lists.
use Rattle.std.specs.Prelude.{ℕ, Bool, bytes_eq, true, false, ◌==◌, ◌||◌, ◌&&◌, List, [], ◌∷◌}

-- Returns whether two texts have the same bytes.
abbrev pub same_bytes : List ℕ → List ℕ → Bool
same_bytes [] [] = true
same_bytes [] (b ∷ bs) = false
same_bytes (a ∷ more) [] = false
same_bytes (a ∷ more) (b ∷ bs) = (a == b) && same_bytes more bs

-- Returns whether a word is one of these words.
abbrev pub is_one_of : List (List ℕ) → List ℕ → Bool
is_one_of [] word = false
is_one_of (w ∷ ws) word = bytes_eq word w || is_one_of ws word
