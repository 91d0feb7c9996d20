-- Defines the paths that texts of definition files name.
use Prim.Native.Char.{code}
use Rattle.std.specs.Prelude.{ℕ, Bool, not, ◌&&◌, List, [], ◌∷◌, ◌++◌, ◌==◌, ◌||◌}
use Rattle.std.specs.Prelude.{nat_eq, Option, Some, None, if◌then◌else◌, codes, length, drop, reverse}
use Rattle.std.specs.List.{list_any, starts_with, slice_split, join_with_byte}
use Rattle.std.specs.Str.{bytes_eq}
use Rattle.support.specs.paths.Below.{is_absolute}

-- Returns the path of a name in a folder, which is empty for the root.
abbrev pub path_in : List ℕ → List ℕ → List ℕ
path_in [] name = name
path_in (b ∷ bs) name = (b ∷ bs) ++ (codes "/" ++ name)

-- Returns the parts of a path between its slashes.
abbrev pub parts_of : List ℕ → List (List ℕ)
parts_of text = slice_split (λ b. b == code "/") text

-- Returns a folder without its last part. A folder is given by its parts from the last to the first; `..` removes the last part.
abbrev pub without_last : List (List ℕ) → Option (List (List ℕ))
without_last [] = None
without_last (part ∷ folder) = Some folder

-- Returns the folder after one part: an empty part and `.` change nothing, and `..` removes the last part. Returns none above the root.
abbrev pub follow_part : List (List ℕ) → List ℕ → Option (List (List ℕ))
follow_part folder part =
    if bytes_eq part [] || bytes_eq part (codes ".") then Some folder
    else (if bytes_eq part (codes "..") then without_last folder else Some (part ∷ folder))

-- Returns the result of `next` for a folder, and `None` without a folder.
abbrev pub and_then : Option (List (List ℕ)) → (List (List ℕ) → Option (List (List ℕ))) → Option (List (List ℕ))
and_then None next = None
and_then (Some folder) next = next folder

-- Returns the folder after all parts are followed, and none if one leads above the root.
abbrev pub follow_parts : List (List ℕ) → List (List ℕ) → Option (List (List ℕ))
follow_parts folder [] = Some folder
follow_parts folder (part ∷ parts) = and_then (follow_part folder part) (λ next. follow_parts next parts)

-- Returns the path of a file or folder below the root, and none for the root itself.
abbrev pub path_of_parts : Option (List (List ℕ)) → Option (List ℕ)
path_of_parts None = None
path_of_parts (Some []) = None
path_of_parts (Some (part ∷ folder)) = Some (join_with_byte (code "/") (reverse (part ∷ folder)))

-- Returns the path of a folder, which is empty for the root.
abbrev pub folder_named : Option (List (List ℕ)) → Option (List ℕ)
folder_named None = None
folder_named (Some folder) = Some (join_with_byte (code "/") (reverse folder))

-- Returns the text after a prefix, and none if the text does not begin with it.
abbrev pub rest_after : List ℕ → List ℕ → Option (List ℕ)
rest_after front text = if starts_with nat_eq text front then Some (drop (length front) text) else None

-- Returns a text of a definition file in a folder as a path relative to the source root. An absolute text must begin with the source root
-- and a slash.
abbrev pub from_root : List ℕ → List ℕ → List ℕ → Option (List ℕ)
from_root source_root folder text = if is_absolute text then rest_after (source_root ++ codes "/") text else Some (path_in folder text)

-- Returns the path that a text relative to the source root names. Returns none for no text, for the root, and above the root.
abbrev pub in_root : Option (List ℕ) → Option (List ℕ)
in_root None = None
in_root (Some text) = path_of_parts (follow_parts [] (parts_of text))

-- Returns the path relative to the source root that a text names, in a definition file of a folder. Returns none if the text leads above
-- the root, names the root itself, or is absolute and not below the source root.
abbrev pub tree_path : List ℕ → List ℕ → List ℕ → Option (List ℕ)
tree_path source_root folder text = in_root (from_root source_root folder text)

-- Returns the path of the folder that a text relative to the source root names, empty for the root, and none for no text or above the root.
abbrev pub in_tree : Option (List ℕ) → Option (List ℕ)
in_tree None = None
in_tree (Some text) = folder_named (follow_parts [] (parts_of text))

-- Returns the path of the folder that a text names, in a definition file of a folder, which is empty for the root. Returns none if the text
-- leads above the root, or is absolute and not below the source root. The folder need not exist.
abbrev pub folder_path : List ℕ → List ℕ → List ℕ → Option (List ℕ)
folder_path source_root folder text = in_tree (from_root source_root folder text)

-- Holds if no part of a path is `..`.
abbrev pub leads_down : List ℕ → Bool
leads_down text = not (list_any (bytes_eq (codes "..")) (parts_of text))

-- Holds if a text is not empty, is not absolute, and has no part `..`.
abbrev pub is_below : List ℕ → Bool
is_below text = not (bytes_eq text []) && (not (is_absolute text) && leads_down text)

-- Returns the folder below this one that a text names, which is empty for the root. Returns none if the text is empty, absolute or has a
-- part `..`.
abbrev pub folder_below : List ℕ → List ℕ → Option (List ℕ)
folder_below folder text = if is_below text then folder_named (follow_parts [] (parts_of (path_in folder text))) else None
