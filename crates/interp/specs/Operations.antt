-- Defines an operator of a chain, once its left side has a value.
use Rattle.std.specs.Prelude.{Option, Some, None}
use Rattle.values.specs.Data.{Data}
use Rattle.values.specs.View.{data_of}
use Rattle.operations.specs.declared.operators.logic.Left.{Left}
use Rattle.operations.specs.declared.operators.logic.Left.TheVariants.{Decides, Open}

-- Returns what the left side of `and` or `or` decided.
abbrev pub left_view : Left → Option Data
left_view (Decides value) = Some (data_of value)
left_view Open = None
