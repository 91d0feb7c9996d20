use Rattle.std.proofs.Common.{Option, Some, option_map, ap, sym}
use Rattle.values.specs.View.{data_of}
use Rattle.values.specs.declared.value.Value.{Value}
use Rattle.code.specs.Statements.{name_at}
use Rattle.expressions.specs.Assignments.{assignment_of_round}
use Rattle.expressions.proofs.Evaluating.{given_as}
use Rattle.expressions.proofs.context.Context.bind_pair.Goals as goal

pub returns-in-Some-clause-gives : goal.returns-in-Some-clause-gives
returns-in-Some-clause-gives g c = λ one two files h.
    given_as (ap (λ (o : Option Value). assignment_of_round c.args.line (name_at c.args.self.now.store.now.names c.args.first) (Some (name_at c.args.self.now.store.now.names c.args.second)) (data_of c.args.round.first, option_map data_of o)) (sym c.in-Some.is))
    (c.assign_both.ensures.gives one two files h)

pub returns-in-None-clause-gives : goal.returns-in-None-clause-gives
returns-in-None-clause-gives g c = λ one two files h.
    given_as (ap (λ (o : Option Value). assignment_of_round c.args.line (name_at c.args.self.now.store.now.names c.args.first) (Some (name_at c.args.self.now.store.now.names c.args.second)) (data_of c.args.round.first, option_map data_of o)) (sym c.in-None.is))
    (c.assign.ensures.gives one files h)
