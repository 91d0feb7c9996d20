use Rattle.std.proofs.Common.{◌-◌, length, arith}
use Rattle.syntax.proofs.Tails.{line_some_left}
use Rattle.syntax.proofs.parser.line_of.Goals as goal

pub returns-then-left-gt0 : goal.returns-then-left-gt0
returns-then-left-gt0 c = line_some_left c.args.source.now c.args.tokens.now _ (length c.args.tokens.now - c.args.left) (omega arith)
