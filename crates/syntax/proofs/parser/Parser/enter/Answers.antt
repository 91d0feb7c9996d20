use Rattle.std.proofs.lemmas.Result.{err_from_is_err_and}
use Rattle.syntax.specs.lexer.Lexeme.{lexemes}
use Rattle.syntax.proofs.ExpressionTails.{enter_fails}
use Rattle.syntax.proofs.parser.Parser.enter.Goals as goal

pub returns-in_err-token-clause-read : goal.returns-in_err-token-clause-read
returns-in_err-token-clause-read c =
    let p = err_from_is_err_and c.from_residual.result c.from_residual.ensures.1 in
    rw (p.1, p.2) (enter_fails c.args.kind c.args.levels (lexemes c.args.self.now.rest.now) c.in_err-token.field-0.0 c.if-levels-gt0.true c.in_err-token.ensures.read)
