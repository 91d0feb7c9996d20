use Rattle.std.proofs.Common.{◌≡◌, sym}
use Rattle.std.proofs.lemmas.Result.{err_from_is_err_and}
use Rattle.syntax.specs.lexer.Lexeme.{lexemes}
use Rattle.syntax.specs.ReadingStatements.{leave_tree, leave_word}
use Rattle.syntax.proofs.StatementTails.{leave_fails}
use Rattle.syntax.proofs.parser.Parser.leave.Goals.{then-ends, else-ends}
use Rattle.syntax.proofs.parser.Parser.leave.Goals as goal

pub returns-in_err-word-clause-read : goal.returns-in_err-word-clause-read
returns-in_err-word-clause-read c =
    let p = err_from_is_err_and c.from_residual.result c.from_residual.ensures.1 in
    let word : c.if-ends.take ≡ leave_word c.args.ends =
    elim c.if-ends.branch [ then-ends w ↦ rw w.if-ends.true w.take-is | else-ends w ↦ rw w.if-ends.false w.take-is ] in
    rw (p.1, p.2) (leave_fails (leave_word c.args.ends) (leave_tree c.args.ends) c.args.inside
    (lexemes c.args.self.now.rest.now) c.in_err-word.field-0.0 c.if-inside.true (rw (sym word) c.in_err-word.ensures.read))
