use Rattle.std.proofs.Common.{◌≡◌, ◌++◌, map, length}
use denote.Text.{Utf8}
use denote.Shadow.{shadow}
use Rattle.values.specs.texts.Segments.{segments, segment_data}
use Rattle.values.proofs.texts.placeholders.push_segments.Given as goal

-- what was found and what is left are all
abbrev pub invariant-loop-before : goal.invariant-loop-before
invariant-loop-before l = shadow (Utf8 l.rest) ×
    (map segment_data l.found.items ++ segments l.places l.rest ≡ map segment_data l.initial.found.items ++ segments l.places l.text)

abbrev pub decreases-loop-before : goal.decreases-loop-before
decreases-loop-before l = length l.rest
