use Rattle.std.proofs.Common.{Ok, sym, ap, refl, ◌≡◌, string_bytes}
use Rattle.arguments.specs.Arguments.{arguments_data}
use Rattle.world.specs.Plan.{give}
use Rattle.interp.specs.Bounds.{bounds}
use Rattle.interp.specs.Folders.{folder}
use Rattle.interp.specs.Frames.{Rest, Calls, End, Left, Refuses, behind, behind_all, MeansBlock, MeansLoop, others_by, rounds_left, round_by}
use Rattle.interp.specs.Statements.{after_round, do_all, on_next, rounds_of}
use Rattle.interp.specs.declared.flow.Flow.TheVariants as flows
use Rattle.expressions.proofs.Evaluating.{given_change, given_give, given_refuse, given_rule, given_stop, given_then}
use Rattle.interp.proofs.Stack.{means_as, moves_as, moves_given, moves_next}
use Rattle.interp.proofs.evaluator.Evaluator.resume.Goals as goal

pub returns-in-Block-clause-gives : goal.returns-in-Block-clause-gives
returns-in-Block-clause-gives g c = λ files rests rest hold stacked means.
    let m : MeansBlock c.args.self.now.context.store.now.names c.in-Block.rest rest = means_as c.args.self.now.context.store.now.names rest c.in-Block.is means in
    moves_as (ap (λ (r : Rest). behind_all rests (behind r (give c.args.flow))) (sym m.is))
    (moves_next rests c.args.flow (λ flow. on_next flow (do_all (folder (bounds m.few c.in-Block.rest.left)) m.few (others_by m.table c.in-Block.rest))) c.continue_block.result hold
    (c.continue_block.ensures.gives m.few files rests m.table hold stacked m.made))

pub returns-in-Loop-clause-gives : goal.returns-in-Loop-clause-gives
returns-in-Loop-clause-gives g c = λ files rests rest hold stacked means.
    let m : MeansLoop c.args.self.now.context.store.now.names c.in-Loop.rest rest = means_as c.args.self.now.context.store.now.names rest c.in-Loop.is means in
    moves_as (ap (λ (r : Rest). behind_all rests (behind r (give c.args.flow))) (sym m.is))
    (moves_next rests c.args.flow (λ flow. after_round flow (rounds_of (round_by m.table c.in-Loop.rest.code.value (bounds m.few c.in-Loop.rest.left) c.in-Loop.rest.head) (rounds_left c.in-Loop.rest))) c.continue_loop.result hold
    (c.continue_loop.ensures.gives m.few files rests m.table hold stacked m.made))

pub returns-in_err-call_function-in-Call-clause-gives : goal.returns-in_err-call_function-in-Call-clause-gives
returns-in_err-call_function-in-Call-clause-gives g c = λ files rests rest hold stacked means.
    let call = c.in-Call.call in
    let m : rest ≡ Calls call.line call.function (arguments_data call.arguments) = means_as c.args.self.now.context.store.now.names rest c.in-Call.is means in
    moves_as (ap (λ (r : Rest). behind_all rests (behind r (give c.args.flow))) (sym m))
    (moves_given c.args.stack.now.items rests c.from_residual.result stacked (given_then {view = λ f. f} {x = c.args.flow} (given_give hold refl)
    (given_stop (c.in_err-call_function-in-Call.ensures.gives files hold) c.from_residual.ensures.1)))

pub returns-in_ok-call_function-in-Call-clause-gives : goal.returns-in_ok-call_function-in-Call-clause-gives
returns-in_ok-call_function-in-Call-clause-gives g c = λ files rests rest hold stacked means.
    let call = c.in-Call.call in
    let m : rest ≡ Calls call.line call.function (arguments_data call.arguments) = means_as c.args.self.now.context.store.now.names rest c.in-Call.is means in
    let w = c.in_ok-call_function-in-Call.ensures.gives files hold in
    moves_as (ap (λ (r : Rest). behind_all rests (behind r (give c.args.flow))) (sym m))
    (moves_given c.args.stack.now.items rests (Ok flows.Next) stacked (given_then {view = λ f. f} {x = c.args.flow} (given_give hold refl)
    (given_then w (given_give w.holds refl))))

pub returns-in-End-clause-gives : goal.returns-in-End-clause-gives
returns-in-End-clause-gives g c = λ files rests rest hold stacked means.
    let m : rest ≡ End = means_as c.args.self.now.context.store.now.names rest c.in-End.is means in
    moves_as (ap (λ (r : Rest). behind_all rests (behind r (give c.args.flow))) (sym m))
    (moves_given c.args.stack.now.items rests (Ok c.args.flow) stacked (given_rule {view = λ f. f} {result = Ok c.args.flow} c.tick.ensures (given_give {x = c.args.flow} hold refl)))

pub returns-in-Left-clause-gives : goal.returns-in-Left-clause-gives
returns-in-Left-clause-gives g c = λ files rests rest hold stacked means.
    let place = c.in-Left.place in
    let m : rest ≡ Left (string_bytes place.file) (string_bytes place.folder) place.line = means_as c.args.self.now.context.store.now.names rest c.in-Left.is means in
    moves_as (ap (λ (r : Rest). behind_all rests (behind r (give c.args.flow))) (sym m))
    (moves_given c.args.stack.now.items rests (Ok flows.Next) stacked
    (given_then {view = λ f. f} {x = c.args.flow} (given_give hold refl)
    (given_then (given_change hold c.go-inner.ensures.moved c.go-inner.ensures.names) (given_give hold refl))))

pub returns-in-Refuses-clause-gives : goal.returns-in-Refuses-clause-gives
returns-in-Refuses-clause-gives g c = λ files rests rest hold stacked means.
    let m : rest ≡ Refuses c.in-Refuses.line = means_as c.args.self.now.context.store.now.names rest c.in-Refuses.is means in
    moves_as (ap (λ (r : Rest). behind_all rests (behind r (give c.args.flow))) (sym m))
    (moves_given c.args.stack.now.items rests c.refuse.result stacked (given_then {view = λ f. f} {x = c.args.flow} (given_give hold refl) (given_refuse hold c.refuse.ensures)))
