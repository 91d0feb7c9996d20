use Rattle.syntax.specs.lexer.Lexeme.{lexemes}
use Rattle.syntax.proofs.ExpressionTails.{comparison_plain, comparison_other}
use Rattle.syntax.proofs.parser.Parser.comparison_operator.Goals as goal

pub returns-in-Some-clause-read : goal.returns-in-Some-clause-read
returns-in-Some-clause-read c = comparison_plain c.plain_comparison.result c.in-Some.operator (lexemes c.args.self.now.rest.now) (lexemes c.plain_comparison.new.self.rest.now) c.plain_comparison.ensures.read c.in-Some.is

pub returns-clause-read : goal.returns-clause-read
returns-clause-read c = rw (comparison_other c.plain_comparison.result (lexemes c.args.self.now.rest.now) (lexemes c.plain_comparison.new.self.rest.now) c.plain_comparison.ensures.read c.in_default.is) c.not_in.ensures.read
