use Rattle.std.proofs.Common.{ap, refl, sym, ◌∙◌}
use Rattle.expressions.specs.Forms.{allowed_call}
use Rattle.expressions.proofs.Evaluating.{given_as, given_give, given_read, given_refused, given_stop, given_then}
use Rattle.world.specs.Plan.{give, next as next_plan}
use Rattle.expressions.proofs.context.Context.function_inside.Goals as goal

pub returns-in_err-function-clause-gives : goal.returns-in_err-function-clause-gives
returns-in_err-function-clause-gives g c = λ files h. given_stop (c.in_err-function.ensures.gives files h) c.from_residual.ensures.1

pub returns-then-is_allowed-clause-gives : goal.returns-then-is_allowed-clause-gives
returns-then-is_allowed-clause-gives g c = λ files h. given_then (c.in_ok-function.ensures.gives files h) (given_read (given_as (ap (λ b. next_plan (allowed_call c.args.line b) (λ u. give c.in_ok-function.function)) (sym c.if-is_allowed.true ∙ c.is_allowed-is_allowed.ensures)) (given_then {view = λ (u : Unit {0}). u} {x = tt {0}} (given_give h refl) (given_give h refl))))

pub returns-else-is_allowed-clause-gives : goal.returns-else-is_allowed-clause-gives
returns-else-is_allowed-clause-gives g c = λ files h. given_then (c.in_ok-function.ensures.gives files h) (given_read (given_as (ap (λ b. next_plan (allowed_call c.args.line b) (λ u. give c.in_ok-function.function)) (sym c.if-is_allowed.false ∙ c.is_allowed-is_allowed.ensures)) (given_refused c.refuse.result h c.refuse.ensures)))
