use Rattle.std.proofs.Common.{◌≡◌, ℕ, [], ◌∷◌, ◌++◌, List, add-one, sym, ap, refl, ◌∙◌, arith}
use Rattle.support.specs.declared.faults.refusal.Refusal.TheVariants as refusals
use Rattle.world.specs.Plan.{next, refuse}
use Rattle.interp.specs.Bounds.{bounds}
use Rattle.interp.specs.Folders.{folder}
use Rattle.interp.specs.Frames.{Refuses, behind_all}
use Rattle.interp.specs.FolderEntries.{ended_all, folder_in_expression}
use Rattle.interp.specs.declared.halt.FolderEntry.{FolderEntry}
use Rattle.interp.specs.declared.frames.Frame.{Frame}
use Rattle.interp.specs.declared.frames.Frame.TheVariants as frames
use Rattle.expressions.proofs.Evaluating.{leads_start}
use Rattle.interp.proofs.Stack.{behind_ends, behind_top, moves_as, moves_none, over_ends, stacked_ends, stacked_top, under_ends}
use Rattle.interp.proofs.evaluator.Evaluator.enter_from_expression.Goals as goal

pub loop-rule-init : goal.loop-rule-init
loop-rule-init g c = record { pushed = refl }

pub loop-rule-preserved : goal.loop-rule-preserved
loop-rule-preserved g c = record {
  pushed = c.in_ok-push.ensures.items ∙ ap (λ (fs : List Frame). fs ++ frames.End ∷ []) c.loop-rule.invariant.pushed
      ∙ ap (over_ends c.args.stack.now.items) (sym (add-one c.loop-rule._rule));
}

pub returns-in_err-push-clause-gives : goal.returns-in_err-push-clause-gives
returns-in_err-push-clause-gives g c = λ few files rests hold stacked. moves_none c.from_residual.result c.push.new.self.items (leads_start hold) c.from_residual.ensures.1

pub returns-in_err-push-2-clause-gives : goal.returns-in_err-push-2-clause-gives
returns-in_err-push-2-clause-gives g c = λ few files rests hold stacked. moves_none c.from_residual-in_err-push-2.result c.push-2.new.self.items (leads_start hold) c.from_residual-in_err-push-2.ensures.1

pub returns-clause-gives : goal.returns-clause-gives
returns-clause-gives g c = λ few files rests hold stacked.
    let n = c.into_inner-text.result.rules in
    let fs = c.args.stack.now.items in
    let ends = stacked_ends fs rests n stacked in
    let end : c.loop-rule._rule ≡ n = omega (arith, c.loop-rule-test.false, c.loop-rule.auto._rule-end) in
    let all = c.loop-rule.invariant.pushed ∙ ap (over_ends fs) end in
    let top = stacked_top (over_ends fs n) c.push-2.new.self.items (under_ends rests n) (frames.Refuses c.into_inner-text.result.line) (Refuses c.into_inner-text.result.line)
    (c.in_ok-push-2.ensures.items ∙ ap (λ (gs : List Frame). gs ++ frames.Refuses c.into_inner-text.result.line ∷ []) all) ends refl in
    moves_as (behind_top (under_ends rests n) (Refuses c.into_inner-text.result.line) _ ∙ behind_ends rests n _
    ∙ ap (λ (t : List ℕ). behind_all rests (ended_all n (next (folder (bounds few c.args.left) t) (λ _. refuse c.into_inner-text.result.line refusals.Type [])))) c.deref.ensures
    ∙ ap (λ (e : FolderEntry). behind_all rests (folder_in_expression (bounds few c.args.left) e)) c.into_inner-text.ensures)
    (c.enter_folder.ensures.gives few files (under_ends rests n ++ Refuses c.into_inner-text.result.line ∷ []) hold top)
