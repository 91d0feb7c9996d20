use Rattle.std.proofs.Common.{◌∙◌, Some, sym, ap, arith}
use Rattle.std.specs.Option.{option_map}
use Rattle.machine_file.specs.Numbers.{integer_of}
use Rattle.options.specs.option_file.Given.{Given, integer}
use Rattle.options.specs.option_file.View.{given_in}
use Rattle.options.proofs.Ranges.{past_128, in_128}
use Rattle.options.proofs.option_file.number.numeral.Goals as goal

pub returns-in_err-magnitude : goal.returns-in_err-magnitude
returns-in_err-magnitude c = ap (option_map given_in) c.from_residual.ensures
    ∙ sym (past_128 c.args.negative c.args.text.now (omega (arith, c.in_err-magnitude.ensures)))

pub returns-then-magnitude-lt-PAST_INTEGERS : goal.returns-then-magnitude-lt-PAST_INTEGERS
returns-then-magnitude-lt-PAST_INTEGERS c =
    ap (λ (g : Given). Some g) (c.integer.ensures ∙ ap (λ n. integer (integer_of c.args.negative n)) c.in_ok-magnitude.ensures.1)
    ∙ sym (in_128 c.args.negative c.args.text.now (omega (arith, c.in_ok-magnitude.ensures.1)))

pub returns-else-magnitude-lt-PAST_INTEGERS : goal.returns-else-magnitude-lt-PAST_INTEGERS
returns-else-magnitude-lt-PAST_INTEGERS c =
    sym (past_128 c.args.negative c.args.text.now (omega (arith, c.in_ok-magnitude.ensures.1)))
