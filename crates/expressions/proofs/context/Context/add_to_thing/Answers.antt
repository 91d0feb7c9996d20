use Rattle.expressions.proofs.Evaluating.{given_stop, given_then}
use Rattle.expressions.proofs.context.Context.add_to_thing.Goals as goal

pub returns-in_err-thing-clause-gives : goal.returns-in_err-thing-clause-gives
returns-in_err-thing-clause-gives g c = λ within files h. given_stop (c.in_err-thing.ensures.gives within files h) c.from_residual.ensures.1

pub returns-clause-gives : goal.returns-clause-gives
returns-clause-gives g c = λ within files h. given_then (c.in_ok-thing.ensures.gives within files h) (c.sum.ensures.gives within files h)
