use Rattle.expressions.proofs.Evaluating.{given_none, given_stop, given_then}
use Rattle.expressions.proofs.context.Context.sum.Goals as goal

pub returns-in_err-answer-clause-gives : goal.returns-in_err-answer-clause-gives
returns-in_err-answer-clause-gives g c = λ within files h. given_none h c.from_residual.ensures.1

pub returns-in_err-sum-clause-gives : goal.returns-in_err-sum-clause-gives
returns-in_err-sum-clause-gives g c = λ within files h. given_stop (c.in_err-sum.ensures.gives _ c.in_ok-answer.ensures files h) c.from_residual-in_err-sum.ensures.1

pub returns-clause-gives : goal.returns-clause-gives
returns-clause-gives g c = λ within files h. given_then (c.in_ok-sum.ensures.gives _ c.in_ok-answer.ensures files h) (c.assign.ensures.gives within files h)
