-- Defines the row of `subdir`: the arguments that it takes.
use Rattle.std.specs.Prelude.{[], ◌∷◌, codes}
use Rattle.arguments.specs.declared.row.ArgumentKind.TheVariants.{Flat, Text}
use Rattle.arguments.specs.declared.row.Piece.TheVariants.{Dependency}
use Rattle.arguments.specs.Row.{RowData, optional, row}

-- Returns the row of `subdir`: a folder, and dependencies; if one of them was not found, the folder is skipped.
abbrev pub subdir_row : RowData
subdir_row = row (Text ∷ []) 1 (optional (codes "if_found") (Flat Dependency) ∷ [])
