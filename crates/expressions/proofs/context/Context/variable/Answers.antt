use Rattle.std.proofs.Common.{ap, sym, ◌∙◌}
use Rattle.world.specs.Store.{kept_variables}
use Rattle.expressions.specs.Forms.{known_value, variable, variable_by}
use Rattle.expressions.proofs.Evaluating.{given_as, given_none, given_read, given_same}
use Rattle.expressions.proofs.context.Context.variable.Goals as goal

pub returns-in_err-thing-clause-gives : goal.returns-in_err-thing-clause-gives
returns-in_err-thing-clause-gives g c = λ within files h.
    given_as (ap (variable c.args.line) (c.name-name.ensures within))
    (given_as (ap (λ b. variable_by b c.args.line c.name-name.result.now) (sym c.if-is_predefined.true ∙ c.is_predefined.ensures))
    (given_same (c.in_err-thing.ensures.gives files h) c.from_residual.ensures.1))

pub returns-then-is_predefined-clause-gives : goal.returns-then-is_predefined-clause-gives
returns-then-is_predefined-clause-gives g c = λ within files h.
    given_as (ap (variable c.args.line) (c.name-name.ensures within))
    (given_as (ap (λ b. variable_by b c.args.line c.name-name.result.now) (sym c.if-is_predefined.true ∙ c.is_predefined.ensures))
    (c.in_ok-thing.ensures.gives files h))

pub returns-in_err-value-clause-gives : goal.returns-in_err-value-clause-gives
returns-in_err-value-clause-gives g c = λ within files h.
    given_none h c.from_residual-in_err-value.ensures.1

pub returns-clause-gives : goal.returns-clause-gives
returns-clause-gives g c = λ within files h.
    let name = c.name-name.result.now in
    let same = ap (kept_variables c.args.self.now.store.now.names c.args.self.now.store.now.slots) (sym (c.name-name.ensures within)) in
    given_as (ap (variable c.args.line) (c.name-name.ensures within))
    (given_as (ap (λ b. variable_by b c.args.line name) (sym c.if-is_predefined.false ∙ c.is_predefined.ensures))
    (given_read (given_as (ap (known_value c.args.line name) (c.in_ok-value.ensures within ∙ same)) (c.require_known.ensures.gives files h))))
