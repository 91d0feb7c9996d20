-- Defines the types of options.
use Rattle.std.specs.Prelude.{ℕ, List, Option, Some, None, codes, bytes_eq, if◌then◌else◌}
use Rattle.option_values.specs.declared.kind.OptionType.{OptionType}
use Rattle.option_values.specs.declared.kind.OptionType.TheVariants as types

-- Returns the type with this name, if there is one.
unfoldable pub type_named : List ℕ → Option OptionType
type_named name =
    if bytes_eq name (codes "string") then Some types.Text
    else (if bytes_eq name (codes "boolean") then Some types.Boolean
    else (if bytes_eq name (codes "combo") then Some types.Combo
    else (if bytes_eq name (codes "integer") then Some types.Integer
    else (if bytes_eq name (codes "array") then Some types.Array
    else (if bytes_eq name (codes "feature") then Some types.Feature
    else None)))))
