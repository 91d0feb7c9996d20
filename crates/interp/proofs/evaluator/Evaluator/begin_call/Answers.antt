use Rattle.std.proofs.Common.{List, ℕ, Ok, sym, ap, refl, ◌∙◌}
use Rattle.arguments.specs.Arguments.{arguments_data}
use Rattle.interp.specs.Bounds.{bounds}
use Rattle.interp.specs.Folders.{folder}
use Rattle.interp.specs.Frames.{behind_all}
use Rattle.interp.specs.StatementCalls.{after_call_view, call_by_action}
use Rattle.interp.specs.Subdir.{on_call_end}
use Rattle.interp.specs.declared.statement_calls.AfterCall.{AfterCall}
use Rattle.expressions.proofs.Evaluating.{given_give, given_stop, leads_next, leads_start}
use Rattle.interp.proofs.Stack.{leads_under, moves_as, moves_call, moves_given, moves_none, moves_then, stacked_on}
use Rattle.interp.proofs.evaluator.Evaluator.begin_call.Goals as goal

pub returns-in_err-after-in-Enter-clause-gives : goal.returns-in_err-after-in-Enter-clause-gives
returns-in_err-after-in-Enter-clause-gives g c = λ few files rests hold stacked.
    let call = c.args.call in
    let into = folder (bounds few c.args.left) in
    moves_as (ap (λ a. behind_all rests (call_by_action into a call.line call.function (arguments_data call.arguments))) c.in-Enter.ensures)
    (moves_given c.args.stack.now.items rests c.from_residual.result stacked (given_stop (c.in_err-after-in-Enter.ensures.gives files hold) c.from_residual.ensures.1))

pub returns-in-Ends-clause-gives : goal.returns-in-Ends-clause-gives
returns-in-Ends-clause-gives g c = λ few files rests hold stacked.
    let call = c.args.call in
    let into = folder (bounds few c.args.left) in
    let fs = c.args.stack.now.items in
    let w = c.in_ok-after-in-Enter.ensures.gives files hold in
    moves_as (ap (λ a. behind_all rests (call_by_action into a call.line call.function (arguments_data call.arguments))) c.in-Enter.ensures)
    (moves_then (Ok c.in-Ends.flow) (leads_under rests (leads_next {view = after_call_view} {others = λ w. on_call_end into w} w))
    (moves_as (ap (λ (x : AfterCall). behind_all rests (on_call_end into (after_call_view x))) (sym c.in-Ends.is))
    (moves_given fs rests (Ok c.in-Ends.flow) (stacked_on fs rests w.gives.written.names stacked) (given_give w.holds refl))))

pub returns-in-Enter-clause-gives : goal.returns-in-Enter-clause-gives
returns-in-Enter-clause-gives g c = λ few files rests hold stacked.
    let call = c.args.call in
    let into = folder (bounds few c.args.left) in
    let fs = c.args.stack.now.items in
    let w = c.in_ok-after-in-Enter.ensures.gives files hold in
    let is = ap (λ (t : List ℕ). behind_all rests (into t)) c.deref.ensures
    ∙ ap (λ (x : AfterCall). behind_all rests (on_call_end into (after_call_view x))) (sym c.in-Enters.is) in
    moves_as (ap (λ a. behind_all rests (call_by_action into a call.line call.function (arguments_data call.arguments))) c.in-Enter.ensures)
    (moves_then c.enter_folder.result (leads_under rests (leads_next {view = after_call_view} {others = λ w. on_call_end into w} w))
    (moves_as is (c.enter_folder.ensures.gives few files rests w.holds (stacked_on fs rests w.gives.written.names stacked))))

pub returns-in-Leave-clause-gives : goal.returns-in-Leave-clause-gives
returns-in-Leave-clause-gives g c = λ few files rests hold stacked.
    let call = c.args.call in
    let into = folder (bounds few c.args.left) in
    moves_as (ap (λ a. behind_all rests (call_by_action into a call.line call.function (arguments_data call.arguments))) c.in-Leave.ensures)
    (moves_given c.args.stack.now.items rests c.subdir_done.result stacked (c.subdir_done.ensures.gives files hold))

pub returns-in_err-push-in-Call-clause-gives : goal.returns-in_err-push-in-Call-clause-gives
returns-in_err-push-in-Call-clause-gives g c = λ few files rests hold stacked.
    moves_none c.from_residual-in_err-push-in-Call.result c.push.new.self.items (leads_start hold) c.from_residual-in_err-push-in-Call.ensures.1

pub returns-clause-gives : goal.returns-clause-gives
returns-clause-gives g c = λ few files rests hold stacked.
    let call = c.args.call in
    let into = folder (bounds few c.args.left) in
    moves_as (ap (λ a. behind_all rests (call_by_action into a call.line call.function (arguments_data call.arguments))) c.in-Call.ensures)
    (moves_call c.args.stack.now.items c.push.new.self.items rests call stacked c.in_ok-push-in-Call.ensures.items (leads_start hold))
