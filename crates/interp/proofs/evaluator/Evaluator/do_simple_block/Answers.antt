use Rattle.std.proofs.Common.{Ok, Err, ◌+◌, drop, refl, sym, rules, ◌∙◌}
use Rattle.expressions.proofs.Evaluating.{given_give, leads_end, leads_on, leads_start}
use Rattle.expressions.specs.Codes.{block_by}
use Rattle.interp.specs.Blocks.{statements_of}
use Rattle.interp.specs.Folders.{folder}
use Rattle.interp.specs.Statements.{do_all}
use Rattle.interp.specs.declared.flow.Flow.{Flow}
use Rattle.interp.proofs.Blocks.{number_below}
use Rattle.interp.proofs.Coming.{comes_end, comes_halt, comes_rule}
use Rattle.interp.proofs.Stack.{made_on}
use Rattle.interp.proofs.Doing.{walked_all, walked_next, walked_on, walked_out}
use Rattle.interp.proofs.evaluator.Evaluator.do_simple_block.Goals as goal

pub loop-place-init : goal.loop-place-init
loop-place-init g c = record { same = (refl, (refl, (refl, refl))); tree = refl; out = refl; done = λ files left table hold made. leads_start hold }

pub do_simple_statement-answer-requires-clause-there : goal.do_simple_statement-answer-requires-clause-there
do_simple_statement-answer-requires-clause-there g c =
    number_below c.args.code.now c.args.block c.statements_of-numbers.result.now c.loop-place.place 0 c.statements_of-numbers.ensures c.loop-place-test.true

pub returns-in_err-flow-clause-gives : goal.returns-in_err-flow-clause-gives
returns-in_err-flow-clause-gives g c = λ files left table hold made.
    let numbers = c.statements_of-numbers.result.now in
    let led = c.loop-place.invariant.done files left table hold made in
    let here = walked_on left table c.args.code.now numbers _ c.loop-place.place c.statements_of-numbers.ensures c.loop-place-test.true led in
    let e = comes_rule {view = λ (f : Flow). f} c.do_simple_statement-answer.result (Err c.in_err-flow.field-0.0) (rw c.in_err-flow.was at c.end_rule_inside.ensures.ends)
    (c.do_simple_statement-answer.ensures.gives files left table led.holds (made_on led.continues.written.names made)) in
    comes_end here (comes_halt e c.from_residual.ensures.1)

pub returns-then-not-is_next-clause-gives : goal.returns-then-not-is_next-clause-gives
returns-then-not-is_next-clause-gives g c = λ files left table hold made.
    let numbers = c.statements_of-numbers.result.now in
    let led = c.loop-place.invariant.done files left table hold made in
    let here = walked_on left table c.args.code.now numbers _ c.loop-place.place c.statements_of-numbers.ensures c.loop-place-test.true led in
    let e = comes_rule {view = λ (f : Flow). f} c.do_simple_statement-answer.result (Ok c.in_ok-flow.flow) (rw c.in_ok-flow.was at c.end_rule_inside.ensures.ends)
    (c.do_simple_statement-answer.ensures.gives files left table led.holds (made_on led.continues.written.names made)) in
    let l = walked_out (do_all (folder left) left.few (block_by table c.args.code.now (drop (c.loop-place.place + 1) (statements_of c.args.code.now c.args.block))))
    c.in_ok-flow.flow (sym c.is_next.ensures ∙ c.if-not-is_next.true) (leads_on here e.comes) in
    record { comes = leads_end l (given_give l.holds refl) }

pub loop-place-preserved : goal.loop-place-preserved
loop-place-preserved g c = record {
  same = search rules;
  tree = search rules;
  out = search rules;
  done = λ files left table hold made.
      let numbers = c.statements_of-numbers.result.now in
      let led = c.loop-place.invariant.done files left table hold made in
      let here = walked_on left table c.args.code.now numbers _ c.loop-place.place c.statements_of-numbers.ensures c.loop-place-test.true led in
      let e = comes_rule {view = λ (f : Flow). f} c.do_simple_statement-answer.result (Ok c.in_ok-flow.flow) (rw c.in_ok-flow.was at c.end_rule_inside.ensures.ends)
      (c.do_simple_statement-answer.ensures.gives files left table led.holds (made_on led.continues.written.names made)) in
      walked_next c.in_ok-flow.flow (sym c.is_next.ensures ∙ c.if-not-is_next.false) (leads_on here e.comes);
}

pub returns-clause-gives : goal.returns-clause-gives
returns-clause-gives g c = λ files left table hold made.
    let l = walked_all left table c.args.code.now c.statements_of-numbers.result.now _ c.loop-place.place c.statements_of-numbers.ensures c.loop-place-test.false (c.loop-place.invariant.done files left table hold made) in
    record { comes = leads_end l (given_give l.holds refl) }
