-- Defines the paths of sources and objects, seen from the build directory.
use Prim.Native.Char.{code}
use Rattle.std.specs.Prelude.{ℕ, zero, suc, ◌-◌, ◌==◌, Bool, [], ◌++◌, map, codes, take, bytes_eq, if◌then◌else◌}
use Rattle.build.specs.edge.Texts.{Path, Text}

-- Returns `../`, `depth` times.
abbrev pub way_up : ℕ → Path
way_up zero = []
way_up (suc depth) = codes "../" ++ way_up depth

-- Returns the path of the source root, seen from the build directory: `..` once for each folder, joined by `/`.
abbrev pub source_root : ℕ → Path
source_root depth = way_up (depth - 1) ++ codes ".."

-- Returns the path of a file of the tree, seen from the build directory, which is at least one folder below the source root.
abbrev pub source_path : ℕ → Path → Path
source_path depth path = way_up (depth - 1) ++ (codes "../" ++ path)

-- Returns whether the path leads out of the build directory.
abbrev pub is_upward : Path → Bool
is_upward path = bytes_eq (take 3 path) (codes "../")

-- Returns a path as the name of a file, with `_` for each `/`.
abbrev pub flat_name : Path → Text
flat_name path = map (λ b. if b == code "/" then code "_" else b) path

-- Returns the object of a source, for the target whose file is `out`.
abbrev pub object_path : Path → Path → Path
object_path out source = out ++ (codes ".p/" ++ (flat_name source ++ codes ".o"))
