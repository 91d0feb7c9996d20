use Rattle.std.proofs.Common.{◌≡◌, ◌≤◌, ◌++◌, map, drop, length}
use Rattle.std.specs.List.{flat_map}
use Rattle.values.specs.View.{data_of}
use Rattle.values.specs.texts.Segments.{segment_data}
use Rattle.operations.specs.methods.Formatted.{text_of_filled_segment}
use Rattle.operations.proofs.methods.formatted.write_segments.Given as goal

-- what is written and what is left are all
abbrev pub invariant-loop-segment : goal.invariant-loop-segment
invariant-loop-segment l =
    (l.made ++ flat_map (text_of_filled_segment (map data_of l.values)) (map segment_data (drop l.segment-index l.segments))
    ≡ l.initial.made ++ flat_map (text_of_filled_segment (map data_of l.values)) (map segment_data l.segments)) × (length l.made ≤ 16777216)
