use Rattle.std.proofs.Common.{refl}
use Rattle.expressions.proofs.Evaluating.{given_give, given_none, given_stop, given_then}
use Rattle.expressions.proofs.context.Context.part_at.Goals as goal

pub returns-in_err-answer-clause-gives : goal.returns-in_err-answer-clause-gives
returns-in_err-answer-clause-gives g c = λ files h. given_none h c.from_residual.ensures.1

pub returns-in_err-answer-2-clause-gives : goal.returns-in_err-answer-2-clause-gives
returns-in_err-answer-2-clause-gives g c = λ files h. given_stop (c.in_err-answer-2.ensures.gives _ c.in_ok-answer.ensures files h) c.from_residual-in_err-answer-2.ensures.1

pub returns-clause-gives : goal.returns-clause-gives
returns-clause-gives g c = λ files h.
    let part = c.in_ok-answer-2.ensures.gives _ c.in_ok-answer.ensures files h in
    given_then part (given_give part.holds refl)
