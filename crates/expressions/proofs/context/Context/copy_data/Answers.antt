use Rattle.expressions.proofs.Evaluating.{given_give, given_none, given_stop, given_then}
use Rattle.expressions.proofs.context.Context.copy_data.Goals as goal

pub returns-in_err-copy-clause-gives : goal.returns-in_err-copy-clause-gives
returns-in_err-copy-clause-gives g c = λ files h.
    given_stop (c.in_err-copy.ensures.gives files h) c.from_residual.ensures.1

pub returns-in_err-of_object-clause-gives : goal.returns-in_err-of_object-clause-gives
returns-in_err-of_object-clause-gives g c = λ files h.
    let copy = c.in_ok-copy.ensures.gives files h in
    given_then copy (given_none copy.holds c.from_residual-in_err-of_object.ensures.1)

pub returns-clause-gives : goal.returns-clause-gives
returns-clause-gives g c = λ files h.
    let copy = c.in_ok-copy.ensures.gives files h in
    given_then copy (given_give copy.holds c.in_ok-of_object.ensures)
