use Rattle.std.proofs.Common.{◌≡◌, ◌≤◌, ◌++◌, length}
use Rattle.values.specs.printing.Pieces.{whole}
use Rattle.values.proofs.printing.writing.write_left.Given as goal

-- what is written and what is left are all
abbrev pub invariant-loop-piece : goal.invariant-loop-piece
invariant-loop-piece l =
    (l.text ++ whole l.printer ≡ l.initial.text ++ whole l.initial.printer) × (length l.text ≤ 16777216)

abbrev pub decreases-loop-piece : goal.decreases-loop-piece
decreases-loop-piece l = length l.printer
