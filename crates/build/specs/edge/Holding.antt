-- Defines which texts `build.ninja` can hold. The others can't be escaped.
use Prim.Native.Char.{code}
use Rattle.std.specs.Prelude.{ℕ, Bool, true, false, ◌==◌, nat_le, ◌||◌, ◌&&◌, not, List, [], ◌∷◌, Option, Some, None}
use Rattle.std.specs.List.{list_all}
use Rattle.build.specs.edge.Texts.{Path, Text}
use Rattle.build.specs.edge.Data.{EdgeData}

-- Returns whether the byte is no control character, `#` or `|`.
abbrev pub path_byte_held : ℕ → Bool
path_byte_held b = nat_le (code " ") b && not ((b == code "\u{7f}") || ((b == code "#") || (b == code "|")))

-- Returns whether `build.ninja` can hold each byte of the path. This holds of an empty path too.
abbrev pub path_held : Path → Bool
path_held path = list_all path_byte_held path

-- Returns whether the byte is no zero, newline or carriage return.
abbrev pub value_byte_held : ℕ → Bool
value_byte_held b = not ((b == code "\0") || ((b == code "\n") || (b == code "\r")))

-- Returns whether `build.ninja` can hold each byte of the text in the value of a variable. This holds of an empty text too.
abbrev pub value_held : Text → Bool
value_held text = list_all value_byte_held text

-- Returns whether the path is not empty and `build.ninja` can hold it.
abbrev pub is_path : Path → Bool
is_path [] = false
is_path (b ∷ bs) = path_held (b ∷ bs)

-- Returns whether the list has at least one text.
abbrev pub is_some_list : List Text → Bool
is_some_list [] = false
is_some_list (t ∷ ts) = true

-- Returns whether `build.ninja` can hold the value, if there is one.
abbrev pub value_held_if : Option Text → Bool
value_held_if None = true
value_held_if (Some value) = value_held value

-- Returns whether the edge makes something and `build.ninja` can hold its paths.
abbrev pub paths_writable : EdgeData → Bool
paths_writable e =
    is_some_list e.outputs
    && (list_all is_path e.outputs && (list_all is_path e.inputs && (list_all is_path e.implicit && list_all is_path e.order_only)))

-- Returns whether the edge has a command and `build.ninja` can hold its words, its redirection, its description and its depfile.
abbrev pub values_writable : EdgeData → Bool
values_writable e =
    is_some_list e.words
    && (list_all value_held e.words && (value_held_if e.redirect && (value_held e.description && value_held_if e.depfile)))

-- Returns whether `build.ninja` can hold the edge.
abbrev pub is_writable : EdgeData → Bool
is_writable e = paths_writable e && values_writable e

-- Returns whether `build.ninja` can hold each of the edges.
abbrev pub are_writable : List EdgeData → Bool
are_writable edges = list_all is_writable edges
