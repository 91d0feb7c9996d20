use Rattle.std.proofs.Common.{length, ◌+◌, ◌≤◌}
use denote.Text.{Utf8}
use denote.Shadow.{shadow}
use Rattle.syntax.specs.lexer.Lexeme.{lexemes}
use Rattle.syntax.proofs.Cuts.{StillLexes}
use Rattle.syntax.proofs.lexer.cut.tokens.Given as goal

abbrev pub invariant-loop-here : goal.invariant-loop-here
invariant-loop-here l =
    record {
      text : shadow (Utf8 l.rest);
      lines : l.line + length l.rest ≤ 1 + length l.source;
      brackets : l.depth + length l.rest ≤ length l.source;
      still : StillLexes l.source (lexemes l.tokens.items) (record { rest = l.rest; line = l.line; depth = l.depth });
    }

abbrev pub decreases-loop-here : goal.decreases-loop-here
decreases-loop-here l = length l.rest
