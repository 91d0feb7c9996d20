use Rattle.std.proofs.Common.{◌≡◌, true, refl, ap, sym, ◌∙◌}
use Rattle.values.specs.Data.{Data, object, is_disabler}
use Rattle.values.specs.declared.object.Object.TheVariants as TheObject
use Rattle.values.specs.View.{data_of}
use Rattle.operations.specs.operators.Operations.{disabler}
use Rattle.expressions.specs.Forms.{disabled_ternary}
use Rattle.expressions.proofs.Evaluating.{given_as, given_give, given_refuse}
use Rattle.expressions.proofs.context.Context.refuse_choice.Goals as goal

is_disabler-true : (d : Data) → is_disabler d ≡ true → d ≡ disabler
is_disabler-true (object TheObject.Disabler) h = refl
is_disabler-true d h = cc

pub returns-then-is_disabler-clause-gives : goal.returns-then-is_disabler-clause-gives
returns-then-is_disabler-clause-gives g c =
    let e = sym c.is_disabler.ensures ∙ c.if-is_disabler.true in
    λ files h. given_as (ap (disabled_ternary c.args.line) (sym e)) (given_give h (is_disabler-true (data_of c.args.value) e))

pub returns-else-is_disabler-clause-gives : goal.returns-else-is_disabler-clause-gives
returns-else-is_disabler-clause-gives g c =
    let e = sym c.is_disabler.ensures ∙ c.if-is_disabler.false in
    λ files h. given_as (ap (disabled_ternary c.args.line) (sym e)) (given_refuse h c.refuse.ensures)
