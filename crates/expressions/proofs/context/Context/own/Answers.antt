use Rattle.std.proofs.Common.{ap, refl, sym, ◌∙◌}
use Rattle.values.specs.View.{data_of}
use Rattle.expressions.specs.Assignments.{own_by}
use Rattle.expressions.proofs.Evaluating.{given_as, given_give, given_same}
use Rattle.expressions.proofs.context.Context.own.Goals as goal

pub returns-in_err-copy_data-in-Some-clause-gives : goal.returns-in_err-copy_data-in-Some-clause-gives
returns-in_err-copy_data-in-Some-clause-gives g c = λ files h.
    given_as (ap (λ o. own_by o (data_of c.args.value)) (sym c.in-Some.is ∙ c.configuration_in.ensures)) (given_same (c.in_err-copy_data-in-Some.ensures.gives files h) c.from_residual.ensures.1)

pub returns-in_ok-copy_data-in-Some-clause-gives : goal.returns-in_ok-copy_data-in-Some-clause-gives
returns-in_ok-copy_data-in-Some-clause-gives g c = λ files h.
    given_as (ap (λ o. own_by o (data_of c.args.value)) (sym c.in-Some.is ∙ c.configuration_in.ensures)) (c.in_ok-copy_data-in-Some.ensures.gives files h)

pub returns-in-None-clause-gives : goal.returns-in-None-clause-gives
returns-in-None-clause-gives g c = λ files h.
    given_as (ap (λ o. own_by o (data_of c.args.value)) (sym c.in-None.is ∙ c.configuration_in.ensures)) (given_give h refl)
