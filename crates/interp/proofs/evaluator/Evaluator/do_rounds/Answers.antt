use Rattle.std.proofs.Common.{◌+◌, drop, ap, sym, refl, arith, rules, ◌∙◌}
use Rattle.values.specs.View.{data_of}
use Rattle.expressions.specs.Rounds.{rounds_in}
use Rattle.expressions.proofs.Evaluating.{given_give, given_none, given_rule, leads_as, leads_end, leads_on, leads_start}
use Rattle.interp.specs.Frames.{parts_by, round_by}
use Rattle.world.specs.Plan.{give}
use Rattle.world.specs.declared.stop.Stop.TheVariants as stops
use Rattle.interp.specs.Statements.{rounds_of}
use Rattle.interp.specs.declared.flow.Flow.{Flow}
use Rattle.interp.proofs.Doing.{ended_tours, none_tours, rested_ended, rested_stop, toured_next, toured_out, walk_of, walked_left}
use Rattle.interp.proofs.Doing.{walked_stop}
use Rattle.interp.proofs.Spelling.{drop_all, round_is, round_none}
use Rattle.interp.proofs.Stack.{made_on}
use Rattle.interp.proofs.evaluator.Evaluator.do_rounds.Goals as goal

pub loop-at-init : goal.loop-at-init
loop-at-init g c = record { same = (refl, (refl, (refl, refl))); tree = refl; out = refl; done = λ files left table hold made. leads_start hold }

pub returns-in_err-round-clause-deep : goal.returns-in_err-round-clause-deep
returns-in_err-round-clause-deep g c = none_tours c.args.code.now stops.Memory c.from_residual.result c.from_residual.ensures.1

pub returns-in_err-round-clause-gives : goal.returns-in_err-round-clause-gives
returns-in_err-round-clause-gives g c = λ files left table hold made.
    let led = c.loop-at.invariant.done files left table hold made in
    rested_stop c.from_residual.result c.from_residual.ensures.1 (leads_end led (given_none led.holds refl))

pub returns-in_default-clause-gives : goal.returns-in_default-clause-gives
returns-in_default-clause-gives g c = λ files left table hold made.
    let led = c.loop-at.invariant.done files left table hold made in
    record { rested = leads_as (ap (rounds_of (round_by table c.args.code.now left c.args.head.now)) (round_none (rounds_in (data_of c.args.whole.now)) c.loop-at.at c.in_ok-round.field-0 c.in_default.is c.in_ok-round.ensures)) led }

pub returns-then-not-goes_round-clause-gives : goal.returns-then-not-goes_round-clause-gives
returns-then-not-goes_round-clause-gives g c = λ files left table hold made.
    let head = c.args.head.now in
    let xs = rounds_in (data_of c.args.whole.now) in
    let led = c.loop-at.invariant.done files left table hold made in
    let here = leads_as (ap (rounds_of (round_by table c.args.code.now left head)) (round_is xs c.loop-at.at c.in_ok-round.field-0 c.in-Some.round c.in-Some.is c.in_ok-round.ensures)) led in
    let done = c.in-Ok-Ends.ensures.gives files left table led.holds (made_on led.continues.written.names made) in
    let flow = leads_end (walk_of (parts_by table c.args.code.now left head.body) left c.in-Ok-Ends.field-0-is done) (given_give {view = λ (f : Flow). f} (walk_of (parts_by table c.args.code.now left head.body) left c.in-Ok-Ends.field-0-is done).holds refl) in
    record { rested = leads_as (ap give (sym c.behind_loop.ensures)) (toured_out (rounds_of (round_by table c.args.code.now left head) (drop (c.loop-at.at + 1) xs)) c.in-Ok-Ends.flow (sym c.goes_round.ensures ∙ c.if-not-goes_round.true) (leads_on here (given_rule {view = λ (f : Flow). f} c.tick.ensures flow))) }

pub loop-at-preserved : goal.loop-at-preserved
loop-at-preserved g c = record {
  same = search rules;
  tree = search rules;
  out = search rules;
  done = λ files left table hold made.
      let head = c.args.head.now in
      let xs = rounds_in (data_of c.args.whole.now) in
      let led = c.loop-at.invariant.done files left table hold made in
      let here = leads_as (ap (rounds_of (round_by table c.args.code.now left head)) (round_is xs c.loop-at.at c.in_ok-round.field-0 c.in-Some.round c.in-Some.is c.in_ok-round.ensures)) led in
      let done = c.in-Ok-Ends.ensures.gives files left table led.holds (made_on led.continues.written.names made) in
      let flow = leads_end (walk_of (parts_by table c.args.code.now left head.body) left c.in-Ok-Ends.field-0-is done) (given_give {view = λ (f : Flow). f} (walk_of (parts_by table c.args.code.now left head.body) left c.in-Ok-Ends.field-0-is done).holds refl) in
      toured_next c.in-Ok-Ends.flow (sym c.goes_round.ensures ∙ c.if-not-goes_round.false) (leads_on here (given_rule {view = λ (f : Flow). f} c.tick.ensures flow));
}

pub returns-in-Ok-clause-deep : goal.returns-in-Ok-clause-deep
returns-in-Ok-clause-deep g c = c.in-Ok.ensures.deep

pub returns-in-Ok-clause-gives : goal.returns-in-Ok-clause-gives
returns-in-Ok-clause-gives g c = λ files left table hold made.
    let head = c.args.head.now in
    let xs = rounds_in (data_of c.args.whole.now) in
    let led = c.loop-at.invariant.done files left table hold made in
    let here = leads_as (ap (rounds_of (round_by table c.args.code.now left head)) (round_is xs c.loop-at.at c.in_ok-round.field-0 c.in-Some.round c.in-Some.is c.in_ok-round.ensures)) led in
    let done = c.in-Ok.ensures.gives files left table led.holds (made_on led.continues.written.names made) in
    record { rested = walked_left here done.rested }

pub returns-in-Err-clause-deep : goal.returns-in-Err-clause-deep
returns-in-Err-clause-deep g c = ended_tours c.args.code.now c.end_rule.result c.end_rule.ensures.same

pub returns-in-Err-clause-gives : goal.returns-in-Err-clause-gives
returns-in-Err-clause-gives g c = λ files left table hold made.
    let head = c.args.head.now in
    let xs = rounds_in (data_of c.args.whole.now) in
    let led = c.loop-at.invariant.done files left table hold made in
    let here = leads_as (ap (rounds_of (round_by table c.args.code.now left head)) (round_is xs c.loop-at.at c.in_ok-round.field-0 c.in-Some.round c.in-Some.is c.in_ok-round.ensures)) led in
    let done = c.in-Err.ensures.gives files left table led.holds (made_on led.continues.written.names made) in
    rested_ended c.end_rule.result c.end_rule.ensures.same (walked_stop c.in-Err.stop here (given_rule {view = λ (f : Flow). f} c.end_rule.ensures.ticks done.rested))

pub returns-clause-gives : goal.returns-clause-gives
returns-clause-gives g c = λ files left table hold made.
    let xs = rounds_in (data_of c.args.whole.now) in
    record { rested = leads_as (ap (rounds_of (round_by table c.args.code.now left c.args.head.now)) (drop_all xs c.loop-at.at (omega (arith, c.loop-at-test.false, c.requires.few)))) (c.loop-at.invariant.done files left table hold made) }
