use Rattle.std.proofs.Common.{◌<◌, ℕ, List, [], length, option_map, get_or, ap, refl, subst, sym, ◌∙◌}
use Rattle.values.specs.View.{data_of}
use Rattle.values.specs.language_names.Names.{is_predefined}
use Rattle.world.specs.Plan.{next}
use Rattle.expressions.specs.Forms.{known_value, variable_by}
use Rattle.expressions.specs.Assignments.{assignment_of_sum}
use Rattle.expressions.proofs.Assigning.{given_over, given_untaken}
use Rattle.expressions.proofs.Evaluating.{given_as, given_give, given_read, given_then}
use Rattle.expressions.proofs.context.Context.add.Goals as goal

pub returns-then-is_thing-clause-gives : goal.returns-then-is_thing-clause-gives
returns-then-is_thing-clause-gives g c = λ within files h.
    let name = get_or c.args.self.now.store.now.names c.args.number [] in
    given_as (ap (λ b. next (variable_by b c.args.line name) (λ d. assignment_of_sum c.args.line name d (data_of c.args.right))) (sym c.if-is_thing.true ∙ c.is_predefined-is_thing.ensures ∙ ap is_predefined (c.name.ensures within)))
    (c.add_to_thing.ensures.gives within files h)

pub returns-in-Some-clause-gives : goal.returns-in-Some-clause-gives
returns-in-Some-clause-gives g c = λ within files h.
    let name = get_or c.args.self.now.store.now.names c.args.number [] in
    let same = c.take-taken.ensures.names in
    let there = subst (λ (ns : List (List ℕ)). c.args.number < length ns) (sym same) within in
    given_as (ap (λ b. next (variable_by b c.args.line name) (λ d. assignment_of_sum c.args.line name d (data_of c.args.right))) (sym c.if-is_thing.false ∙ c.is_predefined-is_thing.ensures ∙ ap is_predefined (c.name.ensures within)))
    (given_then {view = data_of} {x = c.in-Some.left}
    (given_read (given_as (ap (known_value c.args.line name) (sym (ap (option_map data_of) c.in-Some.is) ∙ c.take-taken.ensures.value within)) (given_give h refl)))
    (given_over c.args.line name (data_of c.in-Some.left) (data_of c.args.right) (c.take-taken.ensures.world within) same
    (given_as (ap (λ (ns : List (List ℕ)). assignment_of_sum c.args.line (get_or ns c.args.number []) (data_of c.in-Some.left) (data_of c.args.right)) same) (c.sum.ensures.gives there files h))))

pub returns-in-None-clause-gives : goal.returns-in-None-clause-gives
returns-in-None-clause-gives g c = λ within files h.
    let name = get_or c.args.self.now.store.now.names c.args.number [] in
    let same = c.take-taken.ensures.names in
    let there = subst (λ (ns : List (List ℕ)). c.args.number < length ns) (sym same) within in
    given_as (ap (λ b. next (variable_by b c.args.line name) (λ d. assignment_of_sum c.args.line name d (data_of c.args.right))) (sym c.if-is_thing.false ∙ c.is_predefined-is_thing.ensures ∙ ap is_predefined (c.name.ensures within)))
    (given_untaken c.refuse_unknown.result h (sym (ap (option_map data_of) c.in-None.is) ∙ c.take-taken.ensures.value within) (c.take-taken.ensures.world within) same
    (ap (λ (ns : List (List ℕ)). get_or ns c.args.number []) same) (c.refuse_unknown.ensures.refuses there))
