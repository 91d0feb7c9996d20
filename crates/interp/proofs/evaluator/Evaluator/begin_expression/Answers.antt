use Rattle.std.proofs.Common.{◌≤◌, ℕ, List, [], ◌∷◌, ◌++◌, Ok, Err, length, map, sym, ap, subst, refl, ◌∙◌, arith}
use Rattle.arguments.specs.Arguments.{arguments_data}
use Rattle.code.specs.Nodes.{argument_at}
use Rattle.code.specs.declared.node.ArgumentNode.{ArgumentNode}
use Rattle.code.specs.declared.node.CallNode.{CallNode}
use Rattle.code.specs.declared.node.Node.TheVariants as nodes
use Rattle.syntax.specs.ExpressionTree.{ExpressionTree, arguments}
use Rattle.world.specs.Plan.{give}
use Rattle.interp.specs.Bounds.{bounds}
use Rattle.interp.specs.StatementCalls.{call_statement, named_call}
use Rattle.expressions.specs.Codes.{expressions_by}
use Rattle.interp.specs.Folders.{folder}
use Rattle.interp.specs.Frames.{End, behind_all}
use Rattle.interp.specs.Parts.{above, above_argument}
use Rattle.interp.specs.Statements.{expression_statement}
use Rattle.interp.specs.declared.flow.Flow.{Flow}
use Rattle.interp.specs.declared.flow.Flow.TheVariants as flows
use Rattle.interp.specs.declared.frames.Frame.TheVariants as frames
use Rattle.interp.proofs.Coming.{comes_halt, comes_then, halts_then}
use Rattle.expressions.proofs.Evaluating.{given_give, given_stop, given_then, leads_further, leads_next, leads_start}
use Rattle.interp.proofs.Reading.{arguments_reach, parts_at}
use Rattle.interp.proofs.Spelling.{call_at, reads_at, stated_at}
use Rattle.interp.proofs.Halting.{begun_as, begun_halt, begun_moved, begun_none, begun_stop}
use Rattle.interp.proofs.Stack.{behind_top, leads_under, moves_as, moves_given, moves_then, stacked_on, stacked_top}
use Rattle.interp.proofs.evaluator.Evaluator.begin_expression.Goals as goal

pub arguments-requires-clause-here : goal.arguments-requires-clause-here
arguments-requires-clause-here g c =
    let items = c.in-Call.call.value.arguments.items in
    let reach : above above_argument items ≤ c.args.value = arguments_reach c.args.value items
    (parts_at c.args.code.now c.args.value c.index.result.now (nodes.Call c.in-Call.call c.in-Call.line) c.requires.here c.index.ensures c.in-Call.is) in
    let near : above above_argument items ≤ length c.args.code.now.nodes.items = omega (arith, reach, c.requires.here) in
    subst (λ (xs : List ArgumentNode). above above_argument xs ≤ length c.args.code.now.nodes.items)
    (sym (c.deref.ensures.value ∙ ap (λ (x : CallNode). x.arguments.items) c.deref-call.ensures)) near

pub returns-in_err-push-clause-gives : goal.returns-in_err-push-clause-gives
returns-in_err-push-clause-gives g c = λ few files rests table hold stacked made.
    begun_none c.from_residual.result c.push.new.self.items (leads_start hold) c.from_residual.ensures.1

pub returns-in_err-function-clause-gives : goal.returns-in_err-function-clause-gives
returns-in_err-function-clause-gives g c = λ few files rests table hold stacked made.
    let tree = call_at table c.args.code.now c.args.value c.index.result.now c.in-Call.call c.in-Call.line c.requires.here c.index.ensures c.in-Call.is in
    let into = folder (bounds few c.args.left) in
    let gs = c.push.new.self.items in
    let two = stacked_top c.args.stack.now.items gs rests frames.End End c.in_ok-push.ensures.items stacked refl in
    let ts = expressions_by table c.args.code.now in
    let done = λ (n : List ℕ) (xs : List ArgumentNode). named_call into c.in-Call.line n (arguments (map (argument_at ts) xs)) in
    let same = ap (λ (x : CallNode). done x.name c.in-Call.call.value.arguments.items) c.deref-call.ensures in
    let whole = ap (behind_all (rests ++ End ∷ [])) same ∙ behind_top rests End (done c.in-Call.call.value.name c.in-Call.call.value.arguments.items)
    ∙ ap (λ (t : ExpressionTree). behind_all rests (expression_statement into t)) (sym tree) in
    begun_as whole (begun_stop c.from_residual-in_err-function.result (moves_given gs (rests ++ End ∷ []) (Err _) two (given_stop (c.in_err-function.ensures.gives files hold) refl)) c.from_residual-in_err-function.ensures.1)

pub returns-in_err-arguments-clause-gives : goal.returns-in_err-arguments-clause-gives
returns-in_err-arguments-clause-gives g c = λ few files rests table hold stacked made.
    let tree = call_at table c.args.code.now c.args.value c.index.result.now c.in-Call.call c.in-Call.line c.requires.here c.index.ensures c.in-Call.is in
    let into = folder (bounds few c.args.left) in
    let gs = c.push.new.self.items in
    let two = stacked_top c.args.stack.now.items gs rests frames.End End c.in_ok-push.ensures.items stacked refl in
    let ts = expressions_by table c.args.code.now in
    let done = λ (n : List ℕ) (xs : List ArgumentNode). named_call into c.in-Call.line n (arguments (map (argument_at ts) xs)) in
    let same = ap (done c.deref-call.result.now.name) c.deref.ensures.value
    ∙ ap (λ (x : CallNode). done x.name x.arguments.items) c.deref-call.ensures in
    let whole = ap (behind_all (rests ++ End ∷ [])) same ∙ behind_top rests End (done c.in-Call.call.value.name c.in-Call.call.value.arguments.items)
    ∙ ap (λ (t : ExpressionTree). behind_all rests (expression_statement into t)) (sym tree) in
    let a = c.in_err-arguments.ensures.gives files (bounds few c.args.left) ts hold (reads_at refl made) in
    let h = comes_then {view' = λ (f : Flow). f} {result = Err c.in_err-arguments.field-0.0} (c.in_ok-function.ensures.gives files hold) (comes_halt a refl) in
    begun_as whole (begun_halt _ c.in_err-arguments.field-0.0 c.from_residual-in_err-arguments.result gs (rests ++ End ∷ []) two h.comes c.from_residual-in_err-arguments.ensures.1)

pub returns-in_err-begin_call-clause-gives : goal.returns-in_err-begin_call-clause-gives
returns-in_err-begin_call-clause-gives g c = λ few files rests table hold stacked made.
    let tree = call_at table c.args.code.now c.args.value c.index.result.now c.in-Call.call c.in-Call.line c.requires.here c.index.ensures c.in-Call.is in
    let into = folder (bounds few c.args.left) in
    let gs = c.push.new.self.items in
    let two = stacked_top c.args.stack.now.items gs rests frames.End End c.in_ok-push.ensures.items stacked refl in
    let ts = expressions_by table c.args.code.now in
    let done = λ (n : List ℕ) (xs : List ArgumentNode). named_call into c.in-Call.line n (arguments (map (argument_at ts) xs)) in
    let same = ap (done c.deref-call.result.now.name) c.deref.ensures.value
    ∙ ap (λ (x : CallNode). done x.name x.arguments.items) c.deref-call.ensures in
    let whole = ap (behind_all (rests ++ End ∷ [])) same ∙ behind_top rests End (done c.in-Call.call.value.name c.in-Call.call.value.arguments.items)
    ∙ ap (λ (t : ExpressionTree). behind_all rests (expression_statement into t)) (sym tree) in
    let a = (c.in_ok-arguments.ensures.gives files (bounds few c.args.left) ts hold (reads_at refl made)).comes in
    let l = leads_further (leads_next (c.in_ok-function.ensures.gives files hold)) (leads_next {view = arguments_data} {others = λ a. call_statement into c.in-Call.line c.in_ok-function.function a} a) in
    begun_stop c.from_residual-in_err-begin_call.result (moves_as whole (moves_then (Err _) (leads_under (rests ++ End ∷ []) l)
    (c.in_err-begin_call.ensures.gives few files (rests ++ End ∷ []) a.holds (stacked_on gs (rests ++ End ∷ []) a.gives.written.names two)))) c.from_residual-in_err-begin_call.ensures.1

pub returns-in_ok-begin_call-clause-gives : goal.returns-in_ok-begin_call-clause-gives
returns-in_ok-begin_call-clause-gives g c = λ few files rests table hold stacked made.
    let tree = call_at table c.args.code.now c.args.value c.index.result.now c.in-Call.call c.in-Call.line c.requires.here c.index.ensures c.in-Call.is in
    let into = folder (bounds few c.args.left) in
    let gs = c.push.new.self.items in
    let two = stacked_top c.args.stack.now.items gs rests frames.End End c.in_ok-push.ensures.items stacked refl in
    let ts = expressions_by table c.args.code.now in
    let done = λ (n : List ℕ) (xs : List ArgumentNode). named_call into c.in-Call.line n (arguments (map (argument_at ts) xs)) in
    let same = ap (done c.deref-call.result.now.name) c.deref.ensures.value
    ∙ ap (λ (x : CallNode). done x.name x.arguments.items) c.deref-call.ensures in
    let whole = ap (behind_all (rests ++ End ∷ [])) same ∙ behind_top rests End (done c.in-Call.call.value.name c.in-Call.call.value.arguments.items)
    ∙ ap (λ (t : ExpressionTree). behind_all rests (expression_statement into t)) (sym tree) in
    let a = (c.in_ok-arguments.ensures.gives files (bounds few c.args.left) ts hold (reads_at refl made)).comes in
    let l = leads_further (leads_next (c.in_ok-function.ensures.gives files hold)) (leads_next {view = arguments_data} {others = λ a. call_statement into c.in-Call.line c.in_ok-function.function a} a) in
    begun_moved (moves_as whole (moves_then (Ok _) (leads_under (rests ++ End ∷ []) l)
    (c.in_ok-begin_call.ensures.gives few files (rests ++ End ∷ []) a.holds (stacked_on gs (rests ++ End ∷ []) a.gives.written.names two))))

pub returns-in_err-eval_statement-clause-gives : goal.returns-in_err-eval_statement-clause-gives
returns-in_err-eval_statement-clause-gives g c = λ few files rests table hold stacked made.
    let ts = expressions_by table c.args.code.now in
    let whole = ap (behind_all rests) (stated_at (folder (bounds few c.args.left)) table c.args.code.now c.args.value c.index.result.now c.requires.here c.index.ensures c.in_default.not-Call) in
    let h = c.in_err-eval_statement.ensures.gives files (bounds few c.args.left) ts hold (reads_at refl made) in
    begun_as whole (begun_halt _ _ c.from_residual-in_err-eval_statement.result c.args.stack.now.items rests stacked (halts_then files (bounds few c.args.left) _ (λ _. give flows.Next) _ _ _ h.comes) c.from_residual-in_err-eval_statement.ensures.1)

pub returns-in_ok-eval_statement-clause-gives : goal.returns-in_ok-eval_statement-clause-gives
returns-in_ok-eval_statement-clause-gives g c = λ few files rests table hold stacked made.
    let ts = expressions_by table c.args.code.now in
    let whole = ap (behind_all rests) (stated_at (folder (bounds few c.args.left)) table c.args.code.now c.args.value c.index.result.now c.requires.here c.index.ensures c.in_default.not-Call) in
    let e = (c.in_ok-eval_statement.ensures.gives files (bounds few c.args.left) ts hold (reads_at refl made)).comes in
    begun_moved (moves_as whole (moves_given c.args.stack.now.items rests (Ok flows.Next) stacked (given_then e (given_give e.holds refl))))
