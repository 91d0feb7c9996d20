use Rattle.std.proofs.Common.{ap, sym, ◌∙◌}
use Rattle.expressions.specs.Forms.{known_value, variable_by}
use Rattle.expressions.proofs.Evaluating.{given_as, given_none, given_read}
use Rattle.expressions.proofs.context.Context.variable_at.Goals as goal

pub returns-then-is_predefined-clause-gives : goal.returns-then-is_predefined-clause-gives
returns-then-is_predefined-clause-gives g c = λ files h.
    given_as (ap (λ b. variable_by b c.args.line c.args.name.now) (sym c.if-is_predefined.true ∙ c.is_predefined.ensures))
    (c.thing.ensures.gives files h)

pub returns-in_err-value-clause-gives : goal.returns-in_err-value-clause-gives
returns-in_err-value-clause-gives g c = λ files h.
    given_none h c.from_residual.ensures.1

pub returns-clause-gives : goal.returns-clause-gives
returns-clause-gives g c = λ files h.
    given_as (ap (λ b. variable_by b c.args.line c.args.name.now) (sym c.if-is_predefined.false ∙ c.is_predefined.ensures))
    (given_read (given_as (ap (known_value c.args.line c.args.name.now) c.in_ok-value.ensures) (c.require_known.ensures.gives files h)))
