use Rattle.expressions.proofs.Evaluating.{given_give, given_none}
use Rattle.expressions.proofs.context.Context.thing.Goals as goal

pub returns-in_err-value-clause-gives : goal.returns-in_err-value-clause-gives
returns-in_err-value-clause-gives g c = λ files h. given_none h c.from_residual.ensures.1

pub returns-clause-gives : goal.returns-clause-gives
returns-clause-gives g c = λ files h. given_give h c.in_ok-value.ensures
