use Rattle.std.proofs.Common.{◌≡◌, map, drop}
use Rattle.values.specs.View.{data_of}
use Rattle.arguments.specs.Misfits.{positional_misfit}
use Rattle.arguments.specs.RowView.{row_data}
use Rattle.arguments.proofs.reader.find_misplaced.Given as goal

-- what is left decides
abbrev pub invariant-loop-i : goal.invariant-loop-i
invariant-loop-i l = positional_misfit (row_data l.row) l.i (map data_of (drop l.i l.values)) ≡ positional_misfit (row_data l.row) 0 (map data_of l.values)
