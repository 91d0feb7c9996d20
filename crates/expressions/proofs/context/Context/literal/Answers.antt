use Rattle.std.proofs.Common.{ap, refl, sym, ◌∙◌}
use Rattle.code.specs.Literals.{bytes_of_literal}
use Rattle.code.specs.declared.literal.LiteralValue.TheVariants as meanings
use Rattle.world.specs.Plan.{answer_at_line}
use Rattle.expressions.proofs.Evaluating.{given_as, given_give}
use Rattle.expressions.proofs.Meanings.{stands, of_integer, of_text}
use Rattle.expressions.proofs.context.Context.literal.Goals as goal

pub returns-in-Short-clause-gives : goal.returns-in-Short-clause-gives
returns-in-Short-clause-gives g c = λ files h.
    let n = c.args.node.now in
    given_as (ap (answer_at_line c.args.line) (sym c.short_text.ensures)
    ∙ of_text c.args.line (bytes_of_literal n.source.value) n.literal c.in-Short.text (stands n (meanings.Short c.in-Short.text) c.in-Short.is))
    (given_give h refl)

pub returns-in-Integer-clause-gives : goal.returns-in-Integer-clause-gives
returns-in-Integer-clause-gives g c = λ files h.
    let n = c.args.node.now in
    given_as (ap (answer_at_line c.args.line) (sym c.small_integer.ensures)
    ∙ of_integer c.args.line (bytes_of_literal n.source.value) n.literal c.in-Integer.n (stands n (meanings.Integer c.in-Integer.n) c.in-Integer.is))
    (given_give h refl)
