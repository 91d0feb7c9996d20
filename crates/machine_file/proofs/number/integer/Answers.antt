use Rattle.std.proofs.Common.{◌∙◌, sym, arith}
use Rattle.syntax.specs.lexer.Numerals.{magnitude}
use Rattle.machine_file.proofs.Ranges.{past_64}
use Rattle.machine_file.proofs.number.integer.Goals as goal

pub returns-in_err-magnitude : goal.returns-in_err-magnitude
returns-in_err-magnitude c = c.from_residual.ensures
    ∙ sym (past_64 c.args.negative (magnitude c.args.text.now) (omega (arith, c.in_err-magnitude.ensures)))
