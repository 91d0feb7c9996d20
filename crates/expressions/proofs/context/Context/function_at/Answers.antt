use Rattle.std.proofs.Common.{ap, refl, sym, ◌∙◌}
use Rattle.expressions.specs.Forms.{known_function, refused_name}
use Rattle.values.specs.language_names.Names.{is_left_out}
use Rattle.expressions.proofs.Evaluating.{given_as, given_give, given_refuse}
use Rattle.expressions.proofs.context.Context.function_at.Goals as goal

pub returns-in-Some-clause-gives : goal.returns-in-Some-clause-gives
returns-in-Some-clause-gives g c = λ files h. given_as (ap (known_function c.args.line c.args.name.now) (sym c.in-Some.is ∙ c.function.ensures)) (given_give h refl)

pub returns-then-is_left_out-clause-gives : goal.returns-then-is_left_out-clause-gives
returns-then-is_left_out-clause-gives g c = λ files h. given_as (ap (known_function c.args.line c.args.name.now) (sym c.in-None.is ∙ c.function.ensures)) (given_as (ap (λ n. refused_name c.args.line n (is_left_out n)) c.as_str-text.ensures)
    (given_as (ap (refused_name c.args.line c.as_str-text.result.now) (sym c.if-is_left_out.true ∙ c.is_left_out.ensures)) (given_refuse h c.refuse_left_out.ensures)))

pub returns-else-is_left_out-clause-gives : goal.returns-else-is_left_out-clause-gives
returns-else-is_left_out-clause-gives g c = λ files h. given_as (ap (known_function c.args.line c.args.name.now) (sym c.in-None.is ∙ c.function.ensures)) (given_as (ap (λ n. refused_name c.args.line n (is_left_out n)) c.as_str-text.ensures)
    (given_as (ap (refused_name c.args.line c.as_str-text.result.now) (sym c.if-is_left_out.false ∙ c.is_left_out.ensures)) (given_refuse h c.refuse.ensures)))
