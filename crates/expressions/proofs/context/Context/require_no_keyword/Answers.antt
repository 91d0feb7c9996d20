use Rattle.std.proofs.Common.{ap, arith, map, refl, sym, ◌∙◌}
use Rattle.std.proofs.lemmas.Bool.{eqb-true}
use Rattle.std.proofs.lemmas.List.{nil_from_length}
use Rattle.std.specs.Vec.{vec_len}
use Rattle.arguments.specs.Arguments.{arguments_data, named_data}
use Rattle.arguments.specs.Misfits.{arguments_check}
use Rattle.expressions.specs.Forms.{check_at_line}
use Rattle.expressions.proofs.Evaluating.{given_as, given_give, given_none}
use Rattle.expressions.proofs.Taking.{no_keyword_fits}
use Rattle.expressions.proofs.context.Context.require_no_keyword.Goals as goal

pub returns-then-is_empty-clause-gives : goal.returns-then-is_empty-clause-gives
returns-then-is_empty-clause-gives g c = λ files h.
    given_as (ap (check_at_line c.args.line) (sym (no_keyword_fits (arguments_data c.args.arguments.now)
    (ap (map named_data) (nil_from_length c.args.arguments.now.named.items
    (omega (arith, c.args.arguments.now.named.ok, eqb-true (vec_len c.args.arguments.now.named) 0 (sym c.if-is_empty.ensures)))))))) (given_give h refl)

pub returns-in_err-fits-clause-gives : goal.returns-in_err-fits-clause-gives
returns-in_err-fits-clause-gives g c = λ files h. given_none h c.from_residual.ensures.1

pub returns-clause-gives : goal.returns-clause-gives
returns-clause-gives g c = λ files h.
    given_as (ap (check_at_line c.args.line) (c.in_ok-fits.ensures ∙ ap (λ r. arguments_check r (arguments_data c.args.arguments.now)) c.any_values.ensures))
    (c.fit.ensures.gives files h)
