use Rattle.std.proofs.Common.{◌+◌, drop, get_or, refl, sym, rules, ◌∙◌}
use Rattle.expressions.proofs.Evaluating.{given_rule, leads_on, leads_start}
use Rattle.expressions.specs.Codes.{block_by}
use Rattle.interp.specs.Blocks.{node_at, statements_of}
use Rattle.interp.specs.Folders.{folder}
use Rattle.interp.specs.Statements.{do_all}
use Rattle.interp.specs.declared.flow.Flow.{Flow}
use Rattle.interp.proofs.Blocks.{number_below}
use Rattle.interp.proofs.Stack.{made_on}
use Rattle.interp.proofs.Doing.{deep_none, done_enters, done_flow, done_none, done_stops, walked_all, walked_left, walked_next, walked_on}
use Rattle.interp.proofs.Doing.{walked_out, walked_stop, ended_begins, rested_ended}
use Rattle.interp.proofs.evaluator.Evaluator.do_statements.Goals as goal

pub loop-place-init : goal.loop-place-init
loop-place-init g c = record { same = (refl, (refl, (refl, refl))); tree = refl; out = refl; done = λ files left table hold made. leads_start hold }

pub do_statement-requires-clause-there : goal.do_statement-requires-clause-there
do_statement-requires-clause-there g c = number_below c.args.code.now c.args.block c.statements_of-numbers.result.now c.loop-place.place 0 c.statements_of-numbers.ensures c.loop-place-test.true

pub returns-then-not-is_next-clause-gives : goal.returns-then-not-is_next-clause-gives
returns-then-not-is_next-clause-gives g c = λ files left table hold made.
    let numbers = c.statements_of-numbers.result.now in
    let led = c.loop-place.invariant.done files left table hold made in
    let here = walked_on left table c.args.code.now numbers _ c.loop-place.place c.statements_of-numbers.ensures c.loop-place-test.true led in
    let done = c.in-Ok-Some.ensures.gives files left table led.holds (made_on led.continues.written.names made) in
    record { rested = walked_out (do_all (folder left) left.few (block_by table c.args.code.now (drop (c.loop-place.place + 1) (statements_of c.args.code.now c.args.block)))) c.in-Ok-Some.flow (sym c.is_next.ensures ∙ c.if-not-is_next.true) (leads_on here (given_rule {view = λ (f : Flow). f} c.tick.ensures (done_flow c.in-Ok-Some.field-0-is done))) }

pub loop-place-preserved : goal.loop-place-preserved
loop-place-preserved g c = record {
  same = search rules;
  tree = search rules;
  out = search rules;
  done = λ files left table hold made.
      let numbers = c.statements_of-numbers.result.now in
      let led = c.loop-place.invariant.done files left table hold made in
      let here = walked_on left table c.args.code.now numbers _ c.loop-place.place c.statements_of-numbers.ensures c.loop-place-test.true led in
      let done = c.in-Ok-Some.ensures.gives files left table led.holds (made_on led.continues.written.names made) in
      walked_next c.in-Ok-Some.flow (sym c.is_next.ensures ∙ c.if-not-is_next.false) (leads_on here (given_rule {view = λ (f : Flow). f} c.tick.ensures (done_flow c.in-Ok-Some.field-0-is done)));
}

pub returns-in-Ok-None-clause-deep : goal.returns-in-Ok-None-clause-deep
returns-in-Ok-None-clause-deep g c = (
  number_below c.args.code.now c.args.block c.statements_of-numbers.result.now c.loop-place.place 0 c.statements_of-numbers.ensures c.loop-place-test.true,
  deep_none (node_at c.args.code.now (get_or c.statements_of-numbers.result.now c.loop-place.place 0)) c.in-Ok-None.field-0-is c.in-Ok-None.ensures.deep,
)

pub returns-in-Ok-None-clause-gives : goal.returns-in-Ok-None-clause-gives
returns-in-Ok-None-clause-gives g c = λ files left table hold made.
    let numbers = c.statements_of-numbers.result.now in
    let led = c.loop-place.invariant.done files left table hold made in
    let here = walked_on left table c.args.code.now numbers _ c.loop-place.place c.statements_of-numbers.ensures c.loop-place-test.true led in
    let done = c.in-Ok-None.ensures.gives files left table led.holds (made_on led.continues.written.names made) in
    record { rested = walked_left here (done_none c.in-Ok-None.field-0-is done) }

pub returns-in-Err-Stops-clause-deep : goal.returns-in-Err-Stops-clause-deep
returns-in-Err-Stops-clause-deep g c = ended_begins c.args.code.now c.end_rule.result c.end_rule.ensures.same

pub returns-in-Err-Stops-clause-gives : goal.returns-in-Err-Stops-clause-gives
returns-in-Err-Stops-clause-gives g c = λ files left table hold made.
    let numbers = c.statements_of-numbers.result.now in
    let led = c.loop-place.invariant.done files left table hold made in
    let here = walked_on left table c.args.code.now numbers _ c.loop-place.place c.statements_of-numbers.ensures c.loop-place-test.true led in
    let done = c.in-Err-Stops.ensures.gives files left table led.holds (made_on led.continues.written.names made) in
    rested_ended c.end_rule.result (rw c.in-Err-Stops.field-0-is at c.end_rule.ensures.same)
    (walked_stop c.in-Err-Stops.stop here (given_rule {view = λ (f : Flow). f} (rw c.in-Err-Stops.field-0-is at c.end_rule.ensures.ticks) (done_stops c.in-Err-Stops.field-0-is done)))

pub returns-in-Err-Enters-clause-gives : goal.returns-in-Err-Enters-clause-gives
returns-in-Err-Enters-clause-gives g c = λ files left table hold made.
    let numbers = c.statements_of-numbers.result.now in
    let led = c.loop-place.invariant.done files left table hold made in
    let here = walked_on left table c.args.code.now numbers _ c.loop-place.place c.statements_of-numbers.ensures c.loop-place-test.true led in
    let done = c.in-Err-Enters.ensures.gives files left table led.holds (made_on led.continues.written.names made) in
    rw c.in-Err-Enters.field-0-is (record { rested = walked_left here (done_enters c.in-Err-Enters.field-0-is done) })

pub returns-clause-gives : goal.returns-clause-gives
returns-clause-gives g c = λ files left table hold made.
    record { rested = walked_all left table c.args.code.now c.statements_of-numbers.result.now _ c.loop-place.place c.statements_of-numbers.ensures c.loop-place-test.false (c.loop-place.invariant.done files left table hold made) }
