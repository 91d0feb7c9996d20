use Rattle.expressions.proofs.Evaluating.{given_none}
use Rattle.expressions.proofs.context.Context.list.Goals as goal

pub returns-in_err-answer-clause-gives : goal.returns-in_err-answer-clause-gives
returns-in_err-answer-clause-gives g c = λ files h. given_none h c.from_residual.ensures.1

pub returns-clause-gives : goal.returns-clause-gives
returns-clause-gives g c = λ files h. c.answer.ensures.gives _ c.in_ok-answer.ensures files h
