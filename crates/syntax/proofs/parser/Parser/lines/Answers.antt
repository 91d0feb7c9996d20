use Rattle.std.proofs.Common.{sym, ap, subst, List, Ok, ◌∙◌, map, arith}
use Rattle.std.proofs.lemmas.Result.{err_from_is_err_and}
use Rattle.syntax.specs.lexer.Lexeme.{lexeme_of, lexemes}
use Rattle.syntax.specs.Tree.{StatementTree, statement_of}
use Rattle.syntax.specs.ReadingStatements.{GivesLine, line_at}
use Rattle.syntax.proofs.Tails.{length_lexemes}
use Rattle.syntax.proofs.StatementTails.{lines_fail, lines_first, lines_line_fails, lines_more, lines_newline_fails}
use Rattle.syntax.proofs.parser.Parser.lines.Goals as goal

pub returns-in_err-line : goal.returns-in_err-line
returns-in_err-line c =
    let p = err_from_is_err_and c.from_residual.result c.from_residual.ensures.1 in
    record {
      read = rw (p.1, p.2)
          (lines_fail c.args.levels (lexemes c.args.self.now.rest.now) c.in_err-line.field-0.0 c.in_err-line.ensures.read);
    }

pub loop-self-init : goal.loop-self-init
loop-self-init c =
    lines_first c.args.levels c.in_ok-line.field-0 (lexemes c.args.self.now.rest.now) (map statement_of c.line.new.statements.items)
    (lexemes c.line.new.self.rest.now) (subst (λ (l : List StatementTree).
    GivesLine l (map statement_of c.line.new.statements.items) (Ok c.in_ok-line.field-0) (lexemes c.line.new.self.rest.now)
    (line_at c.args.levels (lexemes c.args.self.now.rest.now))) (ap (map statement_of) c.new-statements.ensures.items) c.in_ok-line.ensures.read)

pub loop-self-preserved : goal.loop-self-preserved
loop-self-preserved c =
    lines_more c.args.levels (map statement_of c.loop-self.statements.items) (lexemes c.loop-self.self.rest.now) _ c.loop-self.invariant
    (sym c.begins.ensures ∙ c.loop-self-test.true) c.in_ok-line-2.field-0 (lexeme_of c.in_ok-take.field-0) (lexemes c.take.new.self.rest.now)
    (map statement_of c.line-in-loop-self.new.statements.items) (lexemes c.line-in-loop-self.new.self.rest.now)
    c.in_ok-take.ensures.read c.in_ok-line-2.ensures.read
    (omega (
      arith,
      c.in_ok-take.ensures.shorter,
      c.in_ok-line-2.ensures.shorter,
      length_lexemes c.loop-self.self.rest.now,
      length_lexemes c.line-in-loop-self.new.self.rest.now,
    ))

pub returns-in_err-take : goal.returns-in_err-take
returns-in_err-take c =
    let p = err_from_is_err_and c.from_residual-in_err-take.result c.from_residual-in_err-take.ensures.1 in
    record {
      read = rw (p.1, p.2) (lines_newline_fails c.args.levels (map statement_of c.loop-self.statements.items)
          (lexemes c.loop-self.self.rest.now) _ c.loop-self.invariant (sym c.begins.ensures ∙ c.loop-self-test.true)
          c.in_err-take.field-0.0 c.in_err-take.ensures.read);
    }

pub returns-in_err-line-2 : goal.returns-in_err-line-2
returns-in_err-line-2 c =
    let p = err_from_is_err_and c.from_residual-in_err-line-2.result c.from_residual-in_err-line-2.ensures.1 in
    record {
      read = rw (p.1, p.2) (lines_line_fails c.args.levels (map statement_of c.loop-self.statements.items)
          (lexemes c.loop-self.self.rest.now) _ c.loop-self.invariant (sym c.begins.ensures ∙ c.loop-self-test.true)
          (lexeme_of c.in_ok-take.field-0) (lexemes c.take.new.self.rest.now) c.in_err-line-2.field-0.0
          c.in_ok-take.ensures.read c.in_err-line-2.ensures.read);
    }
