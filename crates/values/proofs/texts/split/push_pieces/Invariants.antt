use Rattle.std.proofs.Common.{◌≡◌, ◌≤◌, ◌++◌, map, length}
use denote.Text.{Utf8}
use denote.Shadow.{shadow}
use Rattle.values.specs.texts.Cut.{pieces}
use Rattle.values.proofs.texts.split.push_pieces.Given as goal

abbrev pub invariant-loop-piece : goal.invariant-loop-piece
invariant-loop-piece l =
    shadow (Utf8 l.rest) × (pieces l.cut l.text ≡ map (λ piece. piece.now) l.found.items ++ pieces l.cut l.rest) ×
    (length l.found.items ≤ 65536)

abbrev pub decreases-loop-piece : goal.decreases-loop-piece
decreases-loop-piece l = length l.rest
