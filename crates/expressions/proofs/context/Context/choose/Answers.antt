use Rattle.std.proofs.Common.{Bool, Option, Some, ap, refl, sym, ◌∙◌}
use Rattle.values.specs.Data.{is_disabler}
use Rattle.values.specs.View.{data_of}
use Rattle.expressions.specs.Conditions.{choice_of, choice_without}
use Rattle.expressions.proofs.Evaluating.{given_as, given_give, given_refuse}
use Rattle.expressions.proofs.context.Context.choose.Goals as goal

pub returns-in-Some-true-clause-gives : goal.returns-in-Some-true-clause-gives
returns-in-Some-true-clause-gives g c = λ files h. given_as (ap (λ (o : Option Bool). choice_of c.args.line o (is_disabler (data_of c.args.value.now))) (sym (sym c.in-Some-true.ensures ∙ ap Some c.in-Some-true.field-0-test))) (given_give h refl)

pub returns-in-Some-false-clause-gives : goal.returns-in-Some-false-clause-gives
returns-in-Some-false-clause-gives g c = λ files h. given_as (ap (λ (o : Option Bool). choice_of c.args.line o (is_disabler (data_of c.args.value.now))) (sym (sym c.in-Some-false.ensures ∙ ap Some c.in-Some-false.field-0-test))) (given_give h refl)

pub returns-then-is_disabler-clause-gives : goal.returns-then-is_disabler-clause-gives
returns-then-is_disabler-clause-gives g c = λ files h. given_as (ap (λ (o : Option Bool). choice_of c.args.line o (is_disabler (data_of c.args.value.now))) c.in-None.ensures) (given_as (ap (choice_without c.args.line) (sym c.if-is_disabler.true ∙ c.is_disabler.ensures)) (given_give h refl))

pub returns-else-is_disabler-clause-gives : goal.returns-else-is_disabler-clause-gives
returns-else-is_disabler-clause-gives g c = λ files h. given_as (ap (λ (o : Option Bool). choice_of c.args.line o (is_disabler (data_of c.args.value.now))) c.in-None.ensures) (given_as (ap (choice_without c.args.line) (sym c.if-is_disabler.false ∙ c.is_disabler.ensures)) (given_refuse h c.refuse.ensures))
