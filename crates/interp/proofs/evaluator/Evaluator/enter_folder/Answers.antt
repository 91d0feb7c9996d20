use Rattle.std.proofs.Common.{subst, ◌≡◌, ℕ, suc, ◌-◌, List, [], ◌∷◌, ◌++◌, sym, ap, refl, ◌∙◌, string_bytes, arith}
use Rattle.support.specs.declared.faults.refusal.Refusal.TheVariants as refusals
use Rattle.world.specs.Answering.{Refuses}
use Rattle.world.specs.Plan.{next}
use Rattle.expressions.specs.Codes.{file_by}
use Rattle.expressions.specs.Contexts.{stand_of}
use Rattle.interp.specs.Folders.{folder_by}
use Rattle.expressions.specs.Folders.{fresh, statements_of_folder}
use Rattle.interp.specs.Frames.{Rest, End, Left, behind, behind_all}
use Rattle.interp.specs.Statements.{do_all}
use Rattle.interp.specs.declared.frames.Frame.{Frame}
use Rattle.interp.specs.declared.frames.Frame.TheVariants as frames
use Rattle.expressions.proofs.Evaluating.{given_as, given_stop, given_then, leads_as, leads_further, leads_next, leads_start}
use Rattle.interp.proofs.Doing.{memory_is}
use Rattle.interp.proofs.Places.{entered_fresh, folder_is, given_refused_here, leads_fresh}
use Rattle.interp.proofs.Stack.{behind_two, leads_under, left_here, made_now, moves_as, moves_block, moves_given, moves_none, moves_then}
use Rattle.interp.proofs.Stack.{stacked_on, stacked_top}
use Rattle.interp.proofs.evaluator.Evaluator.enter_folder.Goals as goal

pub returns-in_err-path-clause-gives : goal.returns-in_err-path-clause-gives
returns-in_err-path-clause-gives g c = λ few files rests hold stacked.
    moves_as (ap (behind_all rests) (folder_is few c.args.left c.args.text.now))
    (moves_given c.args.stack.now.items rests c.from_residual.result stacked (given_stop (c.in_err-path.ensures.gives files hold) c.from_residual.ensures.1))

pub returns-then-left-eq0-clause-gives : goal.returns-then-left-eq0-clause-gives
returns-then-left-eq0-clause-gives g c = λ few files rests hold stacked.
    let f = c.in_ok-path.ensures.gives files hold in
    moves_as (ap (behind_all rests) (ap (λ n. next (fresh c.args.text.now) (entered_fresh few n)) (sym c.if-left-eq0.true) ∙ folder_is few c.args.left c.args.text.now))
    (moves_given c.args.stack.now.items rests c.refuse.result stacked
    (given_then {others = entered_fresh few 0} f (given_refused_here {s = stand_of g.T.Tree.seen g.O.Outputs.seen c.args.self.now.context} c.refuse.result f.holds
    (subst (λ (n : ℕ). Refuses (record { file = c.args.self.now.context.store.now.file; line = n; refusal = refusals.Limit; detail = [] }) c.refuse.result) c.line-line.ensures c.refuse.ensures))))

pub returns-in_err-outer-clause-gives : goal.returns-in_err-outer-clause-gives
returns-in_err-outer-clause-gives g c = λ few files rests hold stacked. moves_none c.from_residual-in_err-outer.result c.args.stack.now.items (leads_start hold) c.from_residual-in_err-outer.ensures.1

pub returns-in_err-opened-clause-gives : goal.returns-in_err-opened-clause-gives
returns-in_err-opened-clause-gives g c = λ few files rests hold stacked.
    let more : suc (c.args.left - 1) ≡ c.args.left = omega arith in
    let f = leads_fresh few c.args.text.now more (c.in_ok-path.ensures.gives files hold) in
    let path : c.deref.result.now ≡ string_bytes c.in_ok-path.path = c.deref.ensures in
    moves_then c.from_residual-in_err-opened.result (leads_under rests f)
    (moves_given c.args.stack.now.items rests c.from_residual-in_err-opened.result stacked (given_stop (given_as (ap statements_of_folder path) (c.in_err-opened.ensures.gives files f.holds)) c.from_residual-in_err-opened.ensures.1))

pub returns-clause-gives : goal.returns-clause-gives
returns-clause-gives g c = λ few files rests hold stacked.
    let k = c.args.left - 1 in
    let more : suc k ≡ c.args.left = omega arith in
    let f = leads_fresh few c.args.text.now more (c.in_ok-path.ensures.gives files hold) in
    let path : c.deref.result.now ≡ string_bytes c.in_ok-path.path = c.deref.ensures in
    let o = given_as (ap statements_of_folder path) (c.in_ok-opened.ensures.gives files f.holds) in
    let names = c.open.new.self.store.now.names in
    let here = c.args.self.now.context.store.now in
    let outer : Rest = Left here.file here.folder here.line in
    let fs = c.args.stack.now.items in
    let back : List Frame = fs ++ frames.Left c.in_ok-outer.outer ∷ [] in
    let ends : List Frame = back ++ frames.End ∷ [] in
    let a = stacked_top fs back rests (frames.Left c.in_ok-outer.outer) outer refl (stacked_on fs rests o.gives.written.names stacked)
    (sym (left_here c.in_ok-outer.ensures.file c.in_ok-outer.ensures.folder c.in_ok-outer.ensures.line)) in
    let b = stacked_top back ends (rests ++ outer ∷ []) frames.End End refl a refl in
    moves_block few ends c.push_folder.new.stack.items ((rests ++ outer ∷ []) ++ End ∷ []) _ names b c.in_ok-push_folder.ensures.lays
    (made_now c.in_ok-code.ensures.ok c.in_ok-opened.ensures.known)
    (leads_as (ap (λ d. behind_all rests (behind outer (behind End (do_all (folder_by few k) few (file_by names d))))) (sym c.in_ok-code.ensures.ok) ∙ sym (behind_two rests outer End _))
    (leads_under rests (leads_further f (leads_next o))))

pub returns-in_err-code-clause-gives : goal.returns-in_err-code-clause-gives
returns-in_err-code-clause-gives g c = λ few files rests hold stacked.
    let more : suc (c.args.left - 1) ≡ c.args.left = omega arith in
    let f = leads_fresh few c.args.text.now more (c.in_ok-path.ensures.gives files hold) in
    let path : c.deref.result.now ≡ string_bytes c.in_ok-path.path = c.deref.ensures in
    let o = given_as (ap statements_of_folder path) (c.in_ok-opened.ensures.gives files f.holds) in
    moves_none c.from_residual-in_err-code.result c.args.stack.now.items (leads_under rests (leads_further f (leads_next o))) c.from_residual-in_err-code.ensures.1

pub returns-in_err-push_folder-clause-gives : goal.returns-in_err-push_folder-clause-gives
returns-in_err-push_folder-clause-gives g c = λ few files rests hold stacked.
    let more : suc (c.args.left - 1) ≡ c.args.left = omega arith in
    let f = leads_fresh few c.args.text.now more (c.in_ok-path.ensures.gives files hold) in
    let path : c.deref.result.now ≡ string_bytes c.in_ok-path.path = c.deref.ensures in
    let o = given_as (ap statements_of_folder path) (c.in_ok-opened.ensures.gives files f.holds) in
    moves_none c.from_residual-in_err-push_folder.result c.push_folder.new.stack.items (leads_under rests (leads_further f (leads_next o)))
    (memory_is c.from_residual-in_err-push_folder.result c.in_err-push_folder.ensures.lays c.from_residual-in_err-push_folder.ensures.1)
