use Rattle.std.proofs.Common.{length, map}
use Rattle.syntax.specs.lexer.Lexeme.{lexemes}
use Rattle.syntax.specs.ReadingStatements.{file_at}
use Rattle.syntax.specs.Tree.{statement_of}
use Rattle.syntax.proofs.StatementTails.{StillLines}
use Rattle.syntax.proofs.parser.Parser.lines.Given as goal

abbrev pub invariant-loop-self : goal.invariant-loop-self
invariant-loop-self l = StillLines l.levels (map statement_of l.statements.items) (lexemes l.self.rest.now)
    (file_at l.levels (lexemes l.fn.self.rest.now))

abbrev pub decreases-loop-self : goal.decreases-loop-self
decreases-loop-self l = length l.self.rest.now
