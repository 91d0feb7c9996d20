use Rattle.std.proofs.Common.{sym, ◌∙◌}
use Rattle.std.proofs.lemmas.Result.{err_from_is_err_and}
use Rattle.syntax.specs.lexer.Lexeme.{lexemes}
use Rattle.syntax.proofs.ExpressionTails.{label_fails}
use Rattle.syntax.proofs.parser.Parser.label.Goals as goal

pub returns-in_err-name_colon-clause-read : goal.returns-in_err-name_colon-clause-read
returns-in_err-name_colon-clause-read c =
    let p = err_from_is_err_and c.from_residual.result c.from_residual.ensures.1 in
    rw (p.1, p.2) (label_fails c.args.behind (lexemes c.args.self.now.rest.now) c.in_err-name_colon.field-0.0 (sym c.labels.ensures ∙ c.if-labels.true) c.in_err-name_colon.ensures.read)
