-- Defines the relative path from one folder of the build directory to another.
use Prim.Native.Char.{code}
use Rattle.std.specs.Prelude.{ℕ, zero, suc, length, ◌==◌, List, [], ◌∷◌, ◌++◌, flat_map, bytes_eq, codes, if◌then◌else◌}
use Rattle.std.specs.List.{slice_split}
use Rattle.build.specs.edge.Texts.{Path, Text}

-- Returns the parts of a folder's path. The root has none.
abbrev pub parts_of : Path → List Text
parts_of [] = []
parts_of (b ∷ bs) = slice_split (λ c. c == code "/") (b ∷ bs)

-- Returns `/..`, n times.
abbrev pub steps_up : ℕ → Path
steps_up zero = []
steps_up (suc n) = codes "/.." ++ steps_up n

-- Returns a slash and the name of a folder.
abbrev pub step_down : Text → Path
step_down part = codes "/" ++ part

-- Returns the way up out of the first folder and down into the second.
abbrev pub up_and_down : List Text → List Text → Path
up_and_down from to = steps_up (length from) ++ flat_map step_down to

-- Returns the way without the parts that both begin with.
abbrev pub way_between : List Text → List Text → Path
way_between [] to = flat_map step_down to
way_between (f ∷ from) [] = steps_up (length (f ∷ from))
way_between (f ∷ from) (t ∷ to) = if bytes_eq f t then way_between from to else up_and_down (f ∷ from) (t ∷ to)

-- Returns the way from one folder to another, as it follows a path.
abbrev pub relative_way : Path → Path → Path
relative_way from to = way_between (parts_of from) (parts_of to)
