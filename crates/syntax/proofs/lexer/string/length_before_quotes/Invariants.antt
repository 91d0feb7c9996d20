use Rattle.std.proofs.Common.{◌≡◌, drop}
use Rattle.syntax.specs.lexer.Lexing.{before_quotes}
use Rattle.syntax.proofs.Strings.{advanced}
use Rattle.syntax.proofs.lexer.string.length_before_quotes.Given as goal

abbrev pub invariant-loop-length : goal.invariant-loop-length
invariant-loop-length l = before_quotes l.bytes ≡ advanced l.length (before_quotes (drop l.length l.bytes))
