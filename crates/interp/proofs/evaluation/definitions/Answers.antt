use Rattle.std.proofs.Common.{Bool, false, true, refl, rules, subst, sym}
use Rattle.world.specs.Gives.{Holds}
use Rattle.world.specs.Plan.{give, next, ruled}
use Rattle.expressions.proofs.Evaluating.{given_give, given_rule, given_stop, given_then}
use Rattle.interp.specs.Evaluation.{root}
use Rattle.interp.proofs.Starting.{given_is, root_moved}
use Rattle.interp.proofs.evaluation.definitions.Goals as goal

pub returns-in_err-code-clause-gives : goal.returns-in_err-code-clause-gives
returns-in_err-code-clause-gives g c = λ files h.
    let held : Holds (g.T.Tree.seen c.new-context.result.tree.now) files = subst (λ t. Holds (g.T.Tree.seen t) files) (sym c.new-context.ensures.tree) h in
    let one = λ (few : Bool). given_stop {view' = λ (u : Unit {0}). u} {others = λ body. next (ruled (root few body)) (λ _. give tt)} {result = c.from_residual.result}
    (c.in_err-code.ensures.gives files held) c.from_residual.ensures.1 in
    root_moved g.O.Outputs.seen c.new-context.ensures.store c.new-context.ensures.out c.new-context.ensures.steps (search rules) (search rules) (search rules)
    (record { gives = (one false).gives; few = (one true).gives })

pub returns-in_err-end_rule-clause-gives : goal.returns-in_err-end_rule-clause-gives
returns-in_err-end_rule-clause-gives g c = λ files h.
    let held : Holds (g.T.Tree.seen c.new-context.result.tree.now) files = subst (λ t. Holds (g.T.Tree.seen t) files) (sym c.new-context.ensures.tree) h in
    let opened = c.in_ok-code.ensures.gives files held in
    let one = λ (few : Bool). given_then {view' = λ (u : Unit {0}). u} {others = λ body. next (ruled (root few body)) (λ _. give tt)} {result = c.from_residual-in_err-end_rule.result} opened
    (given_stop {others = λ _. give tt} (given_is (sym c.in_err-end_rule.ensures.same) (given_rule c.in_err-end_rule.ensures.ticks (c.run-answer.ensures.gives few files opened.holds)))
    c.from_residual-in_err-end_rule.ensures.1) in
    root_moved g.O.Outputs.seen c.new-context.ensures.store c.new-context.ensures.out c.new-context.ensures.steps (search rules) (search rules) (search rules)
    (record { gives = (one false).gives; few = (one true).gives })

pub returns-clause-gives : goal.returns-clause-gives
returns-clause-gives g c = λ files h.
    let held : Holds (g.T.Tree.seen c.new-context.result.tree.now) files = subst (λ t. Holds (g.T.Tree.seen t) files) (sym c.new-context.ensures.tree) h in
    let opened = c.in_ok-code.ensures.gives files held in
    let one = λ (few : Bool).
    (let done = given_is (sym c.in_ok-end_rule.ensures.same) (given_rule c.in_ok-end_rule.ensures.ticks (c.run-answer.ensures.gives few files opened.holds)) in
    given_then {view' = λ (u : Unit {0}). u} {others = λ body. next (ruled (root few body)) (λ _. give tt)} opened
    (given_then {view' = λ (u : Unit {0}). u} {others = λ _. give tt} done (given_give {x = tt} done.holds refl))) in
    root_moved g.O.Outputs.seen c.new-context.ensures.store c.new-context.ensures.out c.new-context.ensures.steps (search rules) (search rules) (search rules)
    (record { gives = (one false).gives; few = (one true).gives })
