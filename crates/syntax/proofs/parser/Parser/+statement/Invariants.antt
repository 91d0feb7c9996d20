use Rattle.std.proofs.Common.{◌≤◌, ◌<◌, length, map, ◌+◌, ◌*◌}
use Rattle.syntax.specs.lexer.Lexeme.{lexemes}
use Rattle.syntax.specs.ReadingExpressions.{expr_at}
use Rattle.syntax.specs.ReadingStatements.{body_at, parts_at, stmt_at}
use Rattle.syntax.specs.Tree.{branch_of, statement_of}
use Rattle.syntax.proofs.StatementTails.{StillBody, StillParts}
use Rattle.syntax.proofs.parser.Parser.+statement.Given as goal

abbrev pub decreases-statement : goal.decreases-statement
decreases-statement l = 10 * l.levels + 2

abbrev pub decreases-line : goal.decreases-line
decreases-line l = 10 * l.levels + 3

abbrev pub decreases-body : goal.decreases-body
decreases-body l = 10 * l.levels + 4

abbrev pub decreases-branch : goal.decreases-branch
decreases-branch l = 10 * l.levels + 5

abbrev pub decreases-otherwise : goal.decreases-otherwise
decreases-otherwise l = 10 * l.levels + 6

abbrev pub decreases-parts : goal.decreases-parts
decreases-parts l = 10 * l.levels + 6

abbrev pub decreases-round : goal.decreases-round
decreases-round l = 10 * l.levels + 6

abbrev pub decreases-foreach : goal.decreases-foreach
decreases-foreach l = 10 * l.levels + 7

abbrev pub decreases-alternatives : goal.decreases-alternatives
decreases-alternatives l = 10 * l.levels + 7

abbrev pub decreases-conditional : goal.decreases-conditional
decreases-conditional l = 10 * l.levels + 8

abbrev pub invariant-body-loop-self : goal.invariant-body-loop-self
invariant-body-loop-self l =
    record {
      within : length l.self.rest.now ≤ length l.fn.self.rest.now;
      read : StillBody (stmt_at l.inside l.levels) (map statement_of l.statements.items) (lexemes l.self.rest.now)
          (body_at (stmt_at l.inside l.levels) (lexemes l.fn.self.rest.now));
    }

abbrev pub decreases-body-loop-self : goal.decreases-body-loop-self
decreases-body-loop-self l = length l.self.rest.now

abbrev pub invariant-parts-loop-self : goal.invariant-parts-loop-self
invariant-parts-loop-self l =
    record {
      within : length l.self.rest.now < length l.fn.self.rest.now;
      read : StillParts (expr_at l.levels) (stmt_at l.inside l.levels) (map branch_of l.parts.items) (lexemes l.self.rest.now)
          (parts_at (expr_at l.levels) (stmt_at l.inside l.levels) (lexemes l.fn.self.rest.now));
    }

abbrev pub decreases-parts-loop-self : goal.decreases-parts-loop-self
decreases-parts-loop-self l = length l.self.rest.now
