-- Defines the paths of folders of the tree, seen from the build directory.
use Rattle.std.specs.Prelude.{ℕ, [], ◌∷◌, codes}
use Rattle.build.specs.edge.Paths.{source_path, source_root}
use Rattle.build.specs.edge.Texts.{Path}

-- Returns a folder of the tree as the build directory has it.
abbrev pub build_folder : Path → Path
build_folder [] = codes "."
build_folder (b ∷ bs) = b ∷ bs

-- Returns a folder of the tree itself, seen from the build directory.
abbrev pub source_folder : ℕ → Path → Path
source_folder depth [] = source_root depth
source_folder depth (b ∷ bs) = source_path depth (b ∷ bs)
