-- Checks the arguments of a call by its row.
use Rattle.std.specs.Prelude.{Result, Ok, Err}
use Rattle.arguments.specs.Arguments.{ArgumentsData}
use Rattle.arguments.specs.Misfits.{arguments_check}
use Rattle.arguments.specs.Refused.{RefusedData}
use Rattle.arguments.specs.Row.{RowData}
use Rattle.world.specs.Deed.{Deed, give, refuse}

-- Returns the result of reading the arguments, or their refusal with its detail.
abbrev pub deed_of_result : {A : Type 0} → Result A RefusedData → Deed A
deed_of_result (Ok a) = give a
deed_of_result (Err refused) = refuse refused.refusal refused.detail

-- Refuses the call unless its row accepts the arguments.
unfoldable pub fit : RowData → ArgumentsData → Deed (Unit {0})
fit row a = deed_of_result (arguments_check row a)
