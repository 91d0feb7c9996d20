use Rattle.std.proofs.Common.{Bor, option_map, false, ap, refl, sym, ◌∙◌}
use Rattle.values.specs.Data.{object_in}
use Rattle.values.specs.View.{data_of}
use Rattle.values.specs.declared.object.Object.{Object}
use Rattle.interp.specs.Expressions.{method_at_by}
use Rattle.expressions.proofs.Evaluating.{given_as, given_give}
use Rattle.interp.proofs.evaluator.Evaluator.method_at.Goals as goal

pub returns-then-is_disabler-clause-gives : goal.returns-then-is_disabler-clause-gives
returns-then-is_disabler-clause-gives g c = λ files h.
    given_as (ap (λ b. method_at_by b (object_in (data_of c.args.whole.now)) c.args.line (data_of c.args.whole.now) c.args.name.now) (sym c.if-is_disabler.true ∙ c.is_disabler.ensures)) (given_give h refl)

pub returns-in-Some-clause-gives : goal.returns-in-Some-clause-gives
returns-in-Some-clause-gives g c = λ files h.
    given_as (ap (λ b. method_at_by b (object_in (data_of c.args.whole.now)) c.args.line (data_of c.args.whole.now) c.args.name.now) (sym c.if-is_disabler.false ∙ c.is_disabler.ensures))
    (given_as (ap (λ o. method_at_by false o c.args.line (data_of c.args.whole.now) c.args.name.now) (sym (ap (option_map (λ (b : Bor Object). b.now)) c.in-Some.is) ∙ c.as_object.ensures))
    (c.object_method_at.ensures.gives files h))

pub returns-in-None-clause-gives : goal.returns-in-None-clause-gives
returns-in-None-clause-gives g c = λ files h.
    given_as (ap (λ b. method_at_by b (object_in (data_of c.args.whole.now)) c.args.line (data_of c.args.whole.now) c.args.name.now) (sym c.if-is_disabler.false ∙ c.is_disabler.ensures))
    (given_as (ap (λ o. method_at_by false o c.args.line (data_of c.args.whole.now) c.args.name.now) (sym (ap (option_map (λ (b : Bor Object). b.now)) c.in-None.is) ∙ c.as_object.ensures))
    (c.value_method_at.ensures.gives files h))
