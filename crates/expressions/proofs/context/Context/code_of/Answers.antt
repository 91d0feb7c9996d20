use Rattle.std.proofs.Common.{ap, ◌∙◌}
use Rattle.syntax.specs.Parsed.{parsed_file}
use Rattle.support.specs.declared.faults.refusal.Refusal.TheVariants as refusals
use Rattle.world.specs.Plan.{deed}
use Rattle.world.specs.DefinitionFiles.{line_at, refuse_line, tree_or_fault}
use Rattle.expressions.proofs.Evaluating.{given_as}
use Rattle.expressions.proofs.Opening.{given_line, is_no_text, is_text}
use Rattle.expressions.proofs.context.Context.code_of.Goals as goal

pub returns-in-Ok-clause-gives : goal.returns-in-Ok-clause-gives
returns-in-Ok-clause-gives g c = λ files h.
    given_as (ap (λ bytes. deed (tree_or_fault (parsed_file bytes))) c.in-Ok.ensures.cases.0 ∙ ap deed (is_text c.args.bytes.now c.in-Ok.ensures.cases.1))
    (c.code_of_text.ensures.gives files h)

pub returns-in-Err-clause-gives : goal.returns-in-Err-clause-gives
returns-in-Err-clause-gives g c = λ files h.
    given_as (ap (λ line. deed (refuse_line line refusals.NotUtf8)) (c.line_at-line.ensures ∙ ap (line_at c.args.bytes.now) (c.valid_up_to.ensures ∙ c.in-Err.ensures.valid_len))
    ∙ ap deed (is_no_text c.args.bytes.now c.in-Err.ensures.cases.0))
    (given_line _ _ h c.refuse.ensures)
