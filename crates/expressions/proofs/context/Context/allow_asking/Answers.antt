use Rattle.std.proofs.Common.{ap, refl, sym, ◌∙◌}
use Rattle.expressions.specs.Forms.{allowed_call}
use Rattle.expressions.proofs.Evaluating.{given_as, given_give, given_read, given_refuse}
use Rattle.expressions.proofs.context.Context.allow_asking.Goals as goal

pub returns-then-may_be_asked-clause-gives : goal.returns-then-may_be_asked-clause-gives
returns-then-may_be_asked-clause-gives g c = λ files h.
    given_read (given_as (ap (allowed_call c.args.line) (sym c.if-may_be_asked.true ∙ c.may_be_asked-may_be_asked.ensures)) (given_give h refl))

pub returns-else-may_be_asked-clause-gives : goal.returns-else-may_be_asked-clause-gives
returns-else-may_be_asked-clause-gives g c = λ files h.
    given_read (given_as (ap (allowed_call c.args.line) (sym c.if-may_be_asked.false ∙ c.may_be_asked-may_be_asked.ensures)) (given_refuse h c.refuse.ensures))
