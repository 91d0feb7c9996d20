use Rattle.std.proofs.Common.{Option, ℕ, IsTrue, length, option_map, ap, subst, sym}
use Rattle.code.specs.Statements.{name_at, second_within}
use Rattle.expressions.specs.Rounds.{round_data}
use Rattle.expressions.specs.Assignments.{assignment_of_round}
use Rattle.expressions.proofs.Evaluating.{given_as}
use Rattle.expressions.proofs.context.Context.bind.Goals as goal

pub returns-in-Some-clause-gives : goal.returns-in-Some-clause-gives
returns-in-Some-clause-gives g c = λ one two files h.
    given_as (ap (λ (s : Option ℕ). assignment_of_round c.args.line (name_at c.args.self.now.store.now.names c.args.first) (option_map (name_at c.args.self.now.store.now.names) s) (round_data c.args.round)) (sym c.in-Some.is))
    (c.bind_pair.ensures.gives one (subst (λ (s : Option ℕ). IsTrue (second_within (length c.args.self.now.store.now.names) s)) c.in-Some.is two) files h)

pub returns-in-None-clause-gives : goal.returns-in-None-clause-gives
returns-in-None-clause-gives g c = λ one two files h.
    given_as (ap (λ (s : Option ℕ). assignment_of_round c.args.line (name_at c.args.self.now.store.now.names c.args.first) (option_map (name_at c.args.self.now.store.now.names) s) (round_data c.args.round)) (sym c.in-None.is))
    (c.assign.ensures.gives one files h)
