use Rattle.std.proofs.Common.{◌-◌, ◌+◌, ℕ, List, append-nil, take, Err, None, Ok, Some, ap, refl, ◌∙◌, rules}
use Rattle.code.specs.declared.code.Code.{Code}
use Rattle.world.specs.Plan.{next}
use Rattle.expressions.specs.Codes.{file_by}
use Rattle.interp.specs.Bounds.{bounds}
use Rattle.interp.specs.Folders.{folder}
use Rattle.interp.specs.Frames.{unwound_rules}
use Rattle.interp.specs.Statements.{do_all}
use Rattle.interp.specs.declared.frames.Frame.{Frame}
use Rattle.interp.proofs.Ending.{given_unwound, moved_as, run_begun}
use Rattle.expressions.proofs.Evaluating.{given_as, given_give, given_none, given_refused, given_then}
use Rattle.interp.proofs.Stack.{made_now, run_ended, run_none, step_then}
use Rattle.interp.proofs.Starting.{begins_at}
use Rattle.interp.proofs.evaluator.Evaluator.run.Goals as goal

pub returns-in-Some-clause-gives : goal.returns-in-Some-clause-gives
returns-in-Some-clause-gives g c = λ few files hold.
    let body = file_by c.args.self.now.context.store.now.names c.args.code in
    given_as (ap (λ p. next p (λ u. do_all (folder (bounds few 63)) few body)) (begins_at body (Some c.in-Some.line) (c.in-Some.ensures c.args.self.now.context.store.now.names)))
    (given_refused c.refuse.result hold c.refuse.ensures)

pub returns-in_err-shared-clause-gives : goal.returns-in_err-shared-clause-gives
returns-in_err-shared-clause-gives g c = λ few files hold. given_none hold c.from_residual.ensures.1

pub returns-in_err-clone-clause-gives : goal.returns-in_err-clone-clause-gives
returns-in_err-clone-clause-gives g c = λ few files hold. given_none hold c.from_residual-in_err-clone.ensures.1

pub returns-in_err-push-clause-gives : goal.returns-in_err-push-clause-gives
returns-in_err-push-clause-gives g c = λ few files hold. given_none hold c.from_residual-in_err-push.ensures.1

pub loop-step-init : goal.loop-step-init
loop-step-init g c = record {
  same = (refl, (refl, (refl, refl)));
  tree = refl;
  out = refl;
  done = λ few files hold.
      moved_as (ap (λ (d : Code). do_all (folder (bounds few 63)) few (file_by c.args.self.now.context.store.now.names d)) c.in_ok-shared.ensures.ok)
      (run_begun few c.new-stack.result.items c.push.new.self.items _ c.args.self.now.context.store.now.names c.new-stack.ensures.items c.in_ok-push.ensures.items (made_now c.in_ok-shared.ensures.ok c.requires.known) hold);
}

pub loop-step-preserved : goal.loop-step-preserved
loop-step-preserved g c = record {
  same = search rules;
  tree = search rules;
  out = search rules;
  done = λ few files hold.
      let m = c.loop-step.invariant.done few files hold in
      (step_then c.pop.new.self.items c.loop-step.stack.items c.resume.new.stack.items c.in-Some-pop.frame c.loop-step.flow (Ok c.in-Ok.next) c.in-Some-pop.ensures.items m
      (λ rests rest s t. c.in-Ok.ensures.gives files rests rest m.leads.holds s t)).moves;
}

pub returns-in-Err-clause-gives : goal.returns-in-Err-clause-gives
returns-in-Err-clause-gives g c = λ few files hold.
    let body = file_by c.args.self.now.context.store.now.names c.args.code in
    let m = c.loop-step.invariant.done few files hold in
    given_as (ap (λ p. next p (λ u. do_all (folder (bounds few 63)) few body)) (begins_at body None (c.in-None.ensures c.args.self.now.context.store.now.names)))
    (given_then {view = λ (u : Unit {0}). u} {x = tt} (given_give hold refl)
    (given_unwound c.unwind.result c.unwind.new.steps c.unwind.ensures.same
    (c.unwind.ensures.ticks ∙ ap (λ (fs : List Frame). c.resume.new.self.context.steps.now + unwound_rules c.in-Err.stop fs) c.deref.ensures.value)
    (step_then c.pop.new.self.items c.loop-step.stack.items c.resume.new.stack.items c.in-Some-pop.frame c.loop-step.flow (Err c.in-Err.stop) c.in-Some-pop.ensures.items m
    (λ rests rest s t. c.in-Err.ensures.gives files rests rest m.leads.holds s t))))

pub returns-in_default-clause-gives : goal.returns-in_default-clause-gives
returns-in_default-clause-gives g c = λ few files hold.
    let body = file_by c.args.self.now.context.store.now.names c.args.code in
    given_as (ap (λ p. next p (λ u. do_all (folder (bounds few 63)) few body)) (begins_at body None (c.in-None.ensures c.args.self.now.context.store.now.names)))
    (given_then {view = λ (u : Unit {0}). u} {x = tt} (given_give hold refl)
    (run_ended c.loop-step.stack.items c.loop-step.flow
    (c.in_default.ensures.items ∙ append-nil c.pop.new.self.items ∙ c.in_default.ensures.rest ∙ ap (λ (n : ℕ). take (n - 1) c.loop-step.stack.items) c.in_default.ensures.cases.0)
    (c.loop-step.invariant.done few files hold)))

pub returns-clause-gives : goal.returns-clause-gives
returns-clause-gives g c = λ few files hold.
    let body = file_by c.args.self.now.context.store.now.names c.args.code in
    given_as (ap (λ p. next p (λ u. do_all (folder (bounds few 63)) few body)) (begins_at body None (c.in-None.ensures c.args.self.now.context.store.now.names)))
    (given_then {view = λ (u : Unit {0}). u} {x = tt} (given_give hold refl)
    (run_none (c.loop-step.invariant.done few files hold).leads refl))
