use Rattle.std.proofs.Common.{◌≡◌, false, drop}
use Rattle.syntax.specs.lexer.Lexing.{inside}
use Rattle.syntax.proofs.Strings.{advanced}
use Rattle.syntax.proofs.lexer.string.inside_length.Given as goal

abbrev pub invariant-loop-length : goal.invariant-loop-length
invariant-loop-length l = inside false l.bytes ≡ advanced l.length (inside l.escaped (drop l.length l.bytes))
