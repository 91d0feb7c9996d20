-- Defines where files are installed.
use Rattle.std.specs.Prelude.{ℕ, List, [], ◌∷◌, ◌++◌, Option, Some, None, codes, option_map, if◌then◌else◌}
use Rattle.std.specs.Char.{is_ascii_digit}
use Rattle.support.specs.paths.Below.{path_below}

-- Returns the path of an installed file: its name in the folder below `prefix`, or in the folder itself if it is absolute.
abbrev pub destination : (prefix folder name : List ℕ) → List ℕ
destination prefix folder name = path_below (path_below prefix folder) name

-- Returns `subdir` below `includedir`. An empty `subdir` gives the same paths of headers as none.
abbrev pub headers_folder : (includedir subdir : List ℕ) → List ℕ
headers_folder includedir subdir = path_below includedir subdir

-- Returns what the later bytes have, and otherwise this one.
abbrev pub or_else : Option ℕ → Option ℕ → Option ℕ
or_else (Some later) here = Some later
or_else None here = here

-- Returns a byte if it is a decimal digit.
abbrev pub if_digit : ℕ → Option ℕ
if_digit b = if is_ascii_digit b then Some b else None

-- Returns the last decimal digit of a name.
abbrev pub last_digit : List ℕ → Option ℕ
last_digit [] = None
last_digit (b ∷ bs) = or_else (last_digit bs) (if_digit b)

-- Returns the directory of a digit's man section.
abbrev pub section_folder : List ℕ → ℕ → List ℕ
section_folder mandir digit = path_below mandir (codes "man" ++ digit ∷ [])

-- Returns the directory of a man page, by the last digit of its name.
abbrev pub man_folder : List ℕ → List ℕ → Option (List ℕ)
man_folder mandir name = option_map (section_folder mandir) (last_digit name)
