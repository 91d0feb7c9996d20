use Rattle.std.proofs.Common.{length, ◌-◌, ◌≡◌, ◌+◌, ◌≤◌, drop}
use Rattle.syntax.specs.declared.lexer.gap.GapPart.TheVariants.{Blank}
use Rattle.syntax.specs.lexer.Lexing.{gap}
use Rattle.syntax.proofs.lexer.gap.gap_length.Given as goal

abbrev pub invariant-loop-length : goal.invariant-loop-length
invariant-loop-length l = record { within : l.length ≤ length l.bytes; counted : gap l.depth Blank l.bytes ≡ l.length + gap l.depth l.part (drop l.length l.bytes) }

abbrev pub decreases-loop-length : goal.decreases-loop-length
decreases-loop-length l = length l.bytes - l.length
