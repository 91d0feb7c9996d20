use Rattle.std.proofs.Common.{List, Some, map, ap, refl}
use Rattle.values.specs.View.{data_of}
use Rattle.values.specs.declared.value.Value.{Value}
use Rattle.world.specs.Plan.{give, next}
use Rattle.expressions.specs.Forms.{method_answered}
use Rattle.expressions.proofs.Evaluating.{given_as, given_give, given_stop, given_then}
use Rattle.expressions.proofs.context.Context.value_method.Goals as goal

pub returns-in_err-require_no_keyword-clause-gives : goal.returns-in_err-require_no_keyword-clause-gives
returns-in_err-require_no_keyword-clause-gives g c = λ files h.
    given_stop (c.in_err-require_no_keyword.ensures.gives files h) c.from_residual.ensures.1

pub returns-in_err-value-clause-gives : goal.returns-in_err-value-clause-gives
returns-in_err-value-clause-gives g c = λ files h.
    given_then (c.in_ok-require_no_keyword.ensures.gives files h)
    (given_as (ap (λ (xs : List Value). next (method_answered c.args.line (data_of c.args.whole.now) c.args.name.now (map data_of xs)) (λ e. give (Some e))) c.deref.ensures.value)
    (given_stop (c.in_err-value.ensures.gives files h) c.from_residual-in_err-value.ensures.1))

pub returns-clause-gives : goal.returns-clause-gives
returns-clause-gives g c = λ files h.
    given_then (c.in_ok-require_no_keyword.ensures.gives files h)
    (given_as (ap (λ (xs : List Value). next (method_answered c.args.line (data_of c.args.whole.now) c.args.name.now (map data_of xs)) (λ e. give (Some e))) c.deref.ensures.value)
    (given_then (c.in_ok-value.ensures.gives files h) (given_give h refl)))
