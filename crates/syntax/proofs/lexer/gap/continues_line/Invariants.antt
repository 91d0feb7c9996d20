use Rattle.std.proofs.Common.{◌≡◌, false, drop}
use Rattle.syntax.specs.lexer.Lexing.{continues_line}
use Rattle.syntax.proofs.lexer.gap.continues_line.Given as goal

abbrev pub invariant-loop-byte : goal.invariant-loop-byte
invariant-loop-byte l = continues_line false l.bytes ≡ continues_line l.commented (drop l.byte-index l.bytes)
