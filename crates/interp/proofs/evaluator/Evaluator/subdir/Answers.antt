use Rattle.std.proofs.Common.{ap, refl, sym, ◌∙◌}
use Rattle.arguments.specs.Arguments.{arguments_data}
use Rattle.arguments.specs.Misfits.{arguments_check}
use Rattle.expressions.specs.Forms.{check_at_line}
use Rattle.interp.specs.Subdir.{subdir_unless}
use Rattle.expressions.proofs.Evaluating.{given_as, given_give, given_none, given_stop}
use Rattle.interp.proofs.evaluator.Evaluator.subdir.Goals as goal

pub returns-then-gives_disabler-clause-gives : goal.returns-then-gives_disabler-clause-gives
returns-then-gives_disabler-clause-gives g c = λ files h.
    given_as (ap (λ b. subdir_unless b c.args.line (arguments_data c.args.arguments.now)) (sym c.if-gives_disabler.true ∙ c.gives_disabler.ensures)) (given_give h refl)

pub returns-in_err-fits-clause-gives : goal.returns-in_err-fits-clause-gives
returns-in_err-fits-clause-gives g c = λ files h. given_none h c.from_residual.ensures.1

pub returns-in_err-fit-clause-gives : goal.returns-in_err-fit-clause-gives
returns-in_err-fit-clause-gives g c = λ files h.
    given_as (ap (λ b. subdir_unless b c.args.line (arguments_data c.args.arguments.now)) (sym c.if-gives_disabler.false ∙ c.gives_disabler.ensures))
    (given_stop (given_as (ap (check_at_line c.args.line) (c.in_ok-fits.ensures ∙ ap (λ r. arguments_check r (arguments_data c.args.arguments.now)) c.row.ensures)) (c.in_err-fit.ensures.gives files h)) c.from_residual-in_err-fit.ensures.1)
