use Rattle.std.proofs.Common.{false, ap, refl, sym, ◌∙◌}
use Rattle.expressions.specs.Forms.{known_method}
use Rattle.expressions.proofs.Evaluating.{given_as, given_give, given_refuse}
use Rattle.expressions.proofs.context.Context.value_method_at.Goals as goal

pub returns-then-has_method-clause-gives : goal.returns-then-has_method-clause-gives
returns-then-has_method-clause-gives g c = λ files h.
    given_as (ap (λ b. known_method b c.args.line c.args.name.now) (sym c.if-has_method.true ∙ c.has_method.ensures)) (given_give h refl)

pub returns-else-has_method-clause-gives : goal.returns-else-has_method-clause-gives
returns-else-has_method-clause-gives g c = λ files h.
    given_as (ap (λ b. known_method b c.args.line c.args.name.now) (sym c.if-has_method.false ∙ c.has_method.ensures))
    (given_as (ap (known_method false c.args.line) c.as_str.ensures) (given_refuse h c.refuse.ensures))
