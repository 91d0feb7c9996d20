-- Defines valid names of files, and the name of a path without its folders and without its ending.
use Prim.Native.Char.{code}
use Rattle.std.specs.Prelude.{ℕ, Bool, not, ◌||◌, ◌==◌, List, [], ◌∷◌, bytes_eq, codes, if◌then◌else◌}
use Rattle.std.specs.List.{list_any, list_all}

-- Returns whether a text contains this byte.
abbrev pub has : ℕ → List ℕ → Bool
has byte text = list_any (λ b. b == byte) text

-- Returns whether a text contains a `/`.
abbrev pub has_slash : List ℕ → Bool
has_slash text = has (code "/") text

-- Holds if a name is valid for a file: it is not empty, `.` or `..`, and has no `/`.
abbrev pub is_file_name : List ℕ → Bool
is_file_name name = not (bytes_eq name [] || (has_slash name || (bytes_eq name (codes ".") || bytes_eq name (codes ".."))))

-- Returns the text after the last `/`.
abbrev pub plain_name : List ℕ → List ℕ
plain_name [] = []
plain_name (b ∷ bs) = if has (code "/") (b ∷ bs) then plain_name bs else b ∷ bs

-- Returns the text before the last dot, or all of it if there is none.
abbrev pub before_dot : List ℕ → List ℕ
before_dot [] = []
before_dot (b ∷ bs) = if has (code ".") bs then b ∷ before_dot bs else (if b == code "." then [] else b ∷ bs)

-- Returns whether a text consists of dots alone. It is true for the empty text.
abbrev pub are_dots : List ℕ → Bool
are_dots text = list_all (λ b. b == code ".") text

-- Returns a name without its last ending. Leading dots begin no ending.
abbrev pub without_ending : List ℕ → List ℕ
without_ending name = if are_dots (before_dot name) then name else before_dot name

-- Returns the name of the file without its last ending.
abbrev pub base_name : List ℕ → List ℕ
base_name path = without_ending (plain_name path)
