use Rattle.std.proofs.Common.{◌≡◌, map, take}
use Rattle.values.specs.texts.Segments.{segment_data}
use Rattle.code.specs.FormatStrings.{part_data}
use Rattle.code.proofs.format_string.own_parts.Given as goal

-- the parts of the segments so far
abbrev pub invariant-loop-segment : goal.invariant-loop-segment
invariant-loop-segment l = map part_data l.parts.items ≡ map segment_data (take l.segment-index l.segments)
