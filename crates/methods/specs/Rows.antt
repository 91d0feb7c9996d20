-- Defines the arguments that methods of objects take.
use Rattle.std.specs.Prelude.{ℕ, List, [], ◌∷◌, bytes_eq, codes, if◌then◌else◌}
use Rattle.arguments.specs.declared.row.ArgumentKind.TheVariants.{Text}
use Rattle.arguments.specs.Row.{RowData, row}
use Rattle.values.specs.declared.object.Object.{Object}
use Rattle.values.specs.declared.object.Object.TheVariants as objects

-- Returns the arguments that the method with this name takes.
abbrev pub row_of : Object → List ℕ → RowData
row_of objects.Meson name = if bytes_eq name (codes "get_compiler") then row (Text ∷ []) 1 [] else row [] 0 []
row_of _ name = row [] 0 []
