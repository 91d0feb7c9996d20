use Rattle.std.proofs.Common.{ap}
use Rattle.expressions.specs.Forms.{predefined_object}
use Rattle.expressions.proofs.Evaluating.{given_as}
use Rattle.expressions.proofs.context.Context.thing_at.Goals as goal

pub returns-clause-gives : goal.returns-clause-gives
returns-clause-gives g c = λ within files h. given_as (ap predefined_object (c.name-name.ensures within)) (c.thing.ensures.gives files h)
