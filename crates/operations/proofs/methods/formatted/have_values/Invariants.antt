use Rattle.std.proofs.Common.{◌≡◌, map, drop}
use Rattle.std.specs.List.{list_all}
use Rattle.values.specs.View.{data_of}
use Rattle.values.specs.texts.Segments.{segment_data}
use Rattle.operations.specs.methods.Formatted.{has_value}
use Rattle.operations.proofs.methods.formatted.have_values.Given as goal

-- what is left decides
abbrev pub invariant-loop-segment : goal.invariant-loop-segment
invariant-loop-segment l =
    list_all (has_value (map data_of l.values)) (map segment_data (drop l.segment-index l.segments))
    ≡ list_all (has_value (map data_of l.values)) (map segment_data l.segments)
