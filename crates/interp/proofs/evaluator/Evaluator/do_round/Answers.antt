use Rattle.std.proofs.Common.{refl}
use Rattle.expressions.specs.Rounds.{round_data}
use Rattle.expressions.proofs.Evaluating.{given_as, given_stop, leads_next}
use Rattle.interp.proofs.Doing.{none_begins, rested_stop, rested_then}
use Rattle.interp.proofs.Spelling.{bound_as, named, second_named}
use Rattle.interp.proofs.Stack.{made_on}
use Rattle.interp.proofs.evaluator.Evaluator.do_round.Goals as goal

pub returns-in_err-bind-clause-deep : goal.returns-in_err-bind-clause-deep
returns-in_err-bind-clause-deep g c = none_begins c.args.code.now c.in_err-bind.field-0.0 c.from_residual.result c.from_residual.ensures.1

pub returns-in_err-bind-clause-gives : goal.returns-in_err-bind-clause-gives
returns-in_err-bind-clause-gives g c = λ files left table hold made.
    let h = c.args.head.now in
    let bind = given_as (bound_as made h.line h.first h.second (round_data c.args.round) c.requires.first c.requires.second)
    (c.in_err-bind.ensures.gives (named made h.first c.requires.first).0 (second_named made h.second c.requires.second).0 files hold) in
    rested_stop c.from_residual.result c.from_residual.ensures.1 (given_stop bind refl)

pub returns-clause-gives : goal.returns-clause-gives
returns-clause-gives g c = λ files left table hold made.
    let h = c.args.head.now in
    let bind = given_as (bound_as made h.line h.first h.second (round_data c.args.round) c.requires.first c.requires.second)
    (c.in_ok-bind.ensures.gives (named made h.first c.requires.first).0 (second_named made h.second c.requires.second).0 files hold) in
    rested_then (leads_next bind) (c.do_statements.ensures.gives files left table bind.holds (made_on bind.gives.written.names made))
