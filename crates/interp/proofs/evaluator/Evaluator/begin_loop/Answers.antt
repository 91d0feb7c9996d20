use Rattle.std.proofs.Common.{Err, IsTrue, refl, sym, ap, subst, ◌∙◌}
use Rattle.std.specs.Prelude.{nat_lt}
use Rattle.code.specs.Statements.{name_at, second_within}
use Rattle.code.specs.declared.code.Code.{Code}
use Rattle.values.specs.View.{data_of}
use Rattle.interp.specs.Bounds.{bounds}
use Rattle.expressions.specs.Codes.{expressions_by}
use Rattle.interp.specs.Frames.{behind_all, round_by}
use Rattle.expressions.specs.Rounds.{rounds_in}
use Rattle.interp.specs.Statements.{rounds_of}
use Rattle.interp.proofs.Coming.{halts_then}
use Rattle.expressions.proofs.Evaluating.{given_as, given_refuse, given_then, leads_as, leads_next}
use Rattle.interp.proofs.Halting.{begun_halt, begun_moved, begun_none, begun_stop}
use Rattle.interp.proofs.Looping.{walks, walks_not}
use Rattle.interp.proofs.Spelling.{reads_at}
use Rattle.interp.proofs.Stack.{leads_under, made_as, made_on, moves_given, moves_loop, stacked_on}
use Rattle.interp.proofs.evaluator.Evaluator.begin_loop.Goals as goal

pub returns-in_err-whole-clause-gives : goal.returns-in_err-whole-clause-gives
returns-in_err-whole-clause-gives g c = λ few files rests table hold stacked made.
    let h = c.in_err-whole.ensures.gives files (bounds few c.args.left) (expressions_by table c.args.code.now.value) hold (reads_at c.deref.ensures made) in
    begun_halt _ _ c.from_residual.result c.args.stack.now.items rests stacked (halts_then files (bounds few c.args.left) _ _ _ _ _ h.comes) c.from_residual.ensures.1

pub returns-in_err-refuse-in-Err-clause-gives : goal.returns-in_err-refuse-in-Err-clause-gives
returns-in_err-refuse-in-Err-clause-gives g c = λ few files rests table hold stacked made.
    let e = (c.in_ok-whole.ensures.gives files (bounds few c.args.left) (expressions_by table c.args.code.now.value) hold (reads_at c.deref.ensures made)).comes in
    begun_stop c.from_residual-in_err-refuse-in-Err.result (moves_given c.args.stack.now.items rests (Err _) stacked
    (given_then e (given_as (walks_not few c.is_some.result (data_of c.in_ok-whole.whole) c.args.head.line (round_by table c.args.code.now.value (bounds few c.args.left) c.args.head) (name_at table) c.args.head.second c.in-Err.refusal c.is_some.ensures c.in-Err.ensures.loops)
    (given_refuse e.holds c.in_err-refuse-in-Err.ensures)))) c.from_residual-in_err-refuse-in-Err.ensures.1

pub returns-in_ok-refuse-in-Err-clause-gives : goal.returns-in_ok-refuse-in-Err-clause-gives
returns-in_ok-refuse-in-Err-clause-gives g c = λ few files rests table hold stacked made. absurd c.in_ok-refuse-in-Err.ensures

pub returns-in_err-clone-in-Ok-clause-gives : goal.returns-in_err-clone-in-Ok-clause-gives
returns-in_err-clone-in-Ok-clause-gives g c = λ few files rests table hold stacked made.
    let e = (c.in_ok-whole.ensures.gives files (bounds few c.args.left) (expressions_by table c.args.code.now.value) hold (reads_at c.deref.ensures made)).comes in
    begun_none c.from_residual-in_err-clone-in-Ok.result c.args.stack.now.items (leads_under rests (leads_next e)) c.from_residual-in_err-clone-in-Ok.ensures.1

pub invariant_of-push : goal.invariant_of-push
invariant_of-push g c = record {
  few = c.in-Ok.ensures.few;
  first = subst (λ (d : Code). IsTrue (nat_lt c.args.head.first d.names)) (sym c.in_ok-clone-in-Ok.ensures.cases) c.requires.first;
  second = subst (λ (d : Code). IsTrue (second_within d.names c.args.head.second)) (sym c.in_ok-clone-in-Ok.ensures.cases) c.requires.second;
}

pub returns-in_err-push-in-Ok-clause-gives : goal.returns-in_err-push-in-Ok-clause-gives
returns-in_err-push-in-Ok-clause-gives g c = λ few files rests table hold stacked made.
    let e = (c.in_ok-whole.ensures.gives files (bounds few c.args.left) (expressions_by table c.args.code.now.value) hold (reads_at c.deref.ensures made)).comes in
    begun_none c.from_residual-in_err-push-in-Ok.result c.push.new.self.items (leads_under rests (leads_next e)) c.from_residual-in_err-push-in-Ok.ensures.1

pub returns-in_ok-push-in-Ok-clause-gives : goal.returns-in_ok-push-in-Ok-clause-gives
returns-in_ok-push-in-Ok-clause-gives g c = λ few files rests table hold stacked made.
    let e = (c.in_ok-whole.ensures.gives files (bounds few c.args.left) (expressions_by table c.args.code.now.value) hold (reads_at c.deref.ensures made)).comes in
    let round = λ (d : Code). round_by table d (bounds few c.args.left) c.args.head in
    begun_moved (moves_loop few c.args.stack.now.items c.push.new.self.items rests _ table (stacked_on c.args.stack.now.items rests e.gives.written.names stacked) c.in_ok-push-in-Ok.ensures.items
    (made_as (sym c.in_ok-clone-in-Ok.ensures.cases) (made_on e.gives.written.names made))
    (leads_as (ap (behind_all rests) (sym (walks few c.is_some.result (data_of c.in_ok-whole.whole) c.args.head.line (round c.args.code.now.value) (name_at table) c.args.head.second c.is_some.ensures c.in-Ok.ensures.loops c.in-Ok.ensures.few)
    ∙ ap (λ (d : Code). rounds_of (round d) (rounds_in (data_of c.in_ok-whole.whole))) (sym c.in_ok-clone-in-Ok.ensures.cases)))
    (leads_under rests (leads_next e))))
