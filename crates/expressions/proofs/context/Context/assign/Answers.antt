use Rattle.std.proofs.Common.{ap, sym, ◌∙◌}
use Rattle.values.specs.View.{data_of}
use Rattle.code.proofs.Parts.{begins_same}
use Rattle.code.specs.Statements.{name_at}
use Rattle.values.specs.language_names.Names.{is_predefined}
use Rattle.expressions.specs.Assignments.{assigned_by}
use Rattle.expressions.proofs.Assigning.{given_none_grown}
use Rattle.expressions.proofs.Evaluating.{given_as, given_change, given_refuse}
use Rattle.expressions.proofs.context.Context.assign.Goals as goal

pub returns-then-is_predefined-clause-gives : goal.returns-then-is_predefined-clause-gives
returns-then-is_predefined-clause-gives g c = λ within files h.
    given_as (ap (λ b. assigned_by b c.args.line (name_at c.args.self.now.store.now.names c.args.number) (data_of c.args.value)) (sym c.if-is_predefined.true ∙ c.is_predefined.ensures ∙ ap is_predefined (c.name-name.ensures within)))
    (given_refuse h (c.refuse_name.ensures.refuses within))

pub returns-in_err-put-clause-gives : goal.returns-in_err-put-clause-gives
returns-in_err-put-clause-gives g c = λ within files h. given_none_grown h c.from_residual.ensures.1 (begins_same _ _ c.in_err-put.ensures.names)

pub returns-clause-gives : goal.returns-clause-gives
returns-clause-gives g c = λ within files h.
    given_as (ap (λ b. assigned_by b c.args.line (name_at c.args.self.now.store.now.names c.args.number) (data_of c.args.value)) (sym c.if-is_predefined.false ∙ c.is_predefined.ensures ∙ ap is_predefined (c.name-name.ensures within)))
    (given_change h (c.in_ok-put.ensures.world within) c.in_ok-put.ensures.names)
