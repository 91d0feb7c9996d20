use Rattle.expressions.proofs.Evaluating.{given_none}
use Rattle.expressions.proofs.context.Context.decode.Goals as goal

pub returns-in_err-string-clause-gives : goal.returns-in_err-string-clause-gives
returns-in_err-string-clause-gives g c = λ files h. given_none h c.from_residual.ensures.1

pub returns-in_err-answer-clause-gives : goal.returns-in_err-answer-clause-gives
returns-in_err-answer-clause-gives g c = λ files h. given_none h c.from_residual-in_err-answer.ensures.1
