use Rattle.std.proofs.Common.{ap, sym, ◌∙◌}
use Rattle.interp.specs.Expressions.{known_object_method}
use Rattle.expressions.specs.Forms.{refused_name}
use Rattle.methods.specs.Left.{is_left_out}
use Rattle.expressions.proofs.Evaluating.{given_as, given_refuse}
use Rattle.interp.proofs.evaluator.Evaluator.object_method_at.Goals as goal

pub returns-then-has_object_method-clause-gives : goal.returns-then-has_object_method-clause-gives
returns-then-has_object_method-clause-gives g c = λ files h.
    given_as (ap (λ b. known_object_method b c.args.line c.args.object.now c.args.name.now) (sym c.if-has_object_method.true ∙ c.has_object_method.ensures)) (c.allow_asking.ensures.gives files h)

pub returns-then-is_left_out_method-clause-gives : goal.returns-then-is_left_out_method-clause-gives
returns-then-is_left_out_method-clause-gives g c = λ files h.
    given_as (ap (λ b. known_object_method b c.args.line c.args.object.now c.args.name.now) (sym c.if-has_object_method.false ∙ c.has_object_method.ensures)) (given_as (ap (λ n. refused_name c.args.line n (is_left_out c.args.object.now n)) c.as_str-text.ensures)
    (given_as (ap (refused_name c.args.line c.as_str-text.result.now) (sym c.if-is_left_out_method.true ∙ c.is_left_out_method.ensures)) (given_refuse h c.refuse_left_out.ensures)))

pub returns-else-is_left_out_method-clause-gives : goal.returns-else-is_left_out_method-clause-gives
returns-else-is_left_out_method-clause-gives g c = λ files h.
    given_as (ap (λ b. known_object_method b c.args.line c.args.object.now c.args.name.now) (sym c.if-has_object_method.false ∙ c.has_object_method.ensures)) (given_as (ap (λ n. refused_name c.args.line n (is_left_out c.args.object.now n)) c.as_str-text.ensures)
    (given_as (ap (refused_name c.args.line c.as_str-text.result.now) (sym c.if-is_left_out_method.false ∙ c.is_left_out_method.ensures)) (given_refuse h c.refuse.ensures)))
