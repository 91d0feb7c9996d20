use Rattle.std.proofs.Common.{[], ap, sym, refl, ◌∙◌}
use Rattle.arguments.specs.Arguments.{arguments_data}
use Rattle.values.specs.Data.{Data}
use Rattle.support.specs.declared.faults.refusal.Refusal.TheVariants as refusals
use Rattle.world.specs.Plan.{next, refuse}
use Rattle.interp.specs.StatementCalls.{after_call_view}
use Rattle.interp.specs.Subdir.{on_call_end}
use Rattle.interp.specs.Expressions.{entered_inside}
use Rattle.interp.specs.Folders.{folder}
use Rattle.interp.specs.FolderEntries.{folder_in_expression}
use Rattle.interp.specs.declared.statement_calls.AfterCall.{AfterCall}
use Rattle.interp.specs.declared.flow.Flow.{Flow}
use Rattle.interp.specs.declared.halt.FolderEntry.{FolderEntry}
use Rattle.interp.proofs.Coming.{comes_as, comes_end, comes_given, comes_last, comes_none, comes_stop, comes_then}
use Rattle.expressions.proofs.Evaluating.{given_as, given_give, given_refuse, leads_as, leads_next, leads_other}
use Rattle.interp.proofs.evaluator.Evaluator.leave_for_folder.Goals as goal

pub returns-in_err-of_object-clause-gives : goal.returns-in_err-of_object-clause-gives
returns-in_err-of_object-clause-gives g c = λ files left h. comes_none h c.from_residual.ensures.1

pub returns-then-gives_disabler-clause-gives : goal.returns-then-gives_disabler-clause-gives
returns-then-gives_disabler-clause-gives g c = λ files left h.
    comes_given (given_as (ap (λ b. entered_inside (folder left) b c.args.line (arguments_data c.args.arguments.now)) (sym c.if-gives_disabler.true ∙ c.gives_disabler.ensures)) (given_give h c.in_ok-of_object.ensures))

pub returns-in_err-subdir-clause-gives : goal.returns-in_err-subdir-clause-gives
returns-in_err-subdir-clause-gives g c = λ files left h.
    let off = ap (λ b. entered_inside (folder left) b c.args.line (arguments_data c.args.arguments.now)) (sym c.if-gives_disabler.false ∙ c.gives_disabler.ensures) in
    comes_as off (comes_stop (c.in_err-subdir.ensures.gives files h) c.from_residual-in_err-subdir.ensures.1)

pub returns-in_err-refuse-in-Ends-clause-gives : goal.returns-in_err-refuse-in-Ends-clause-gives
returns-in_err-refuse-in-Ends-clause-gives g c = λ files left h.
    let off = ap (λ b. entered_inside (folder left) b c.args.line (arguments_data c.args.arguments.now)) (sym c.if-gives_disabler.false ∙ c.gives_disabler.ensures) in
    let w = c.in_ok-subdir.ensures.gives files h in
    comes_as off (comes_then w (comes_as (ap (λ (x : AfterCall). next (on_call_end (folder left) (after_call_view x)) (λ _. refuse {A = Data} c.args.line refusals.Type [])) (sym c.in-Ends.is))
    (comes_then {view = λ (f : Flow). f} (given_give w.holds refl) (comes_last {C = Data} {view = λ (d : Data). d} (given_refuse w.holds c.in_err-refuse-in-Ends.ensures) c.from_residual-in_err-refuse-in-Ends.ensures.1))))

pub returns-in_ok-refuse-in-Ends-clause-gives : goal.returns-in_ok-refuse-in-Ends-clause-gives
returns-in_ok-refuse-in-Ends-clause-gives g c = λ files left h. absurd c.in_ok-refuse-in-Ends.ensures

pub returns-in_err-new-in-Enters-clause-gives : goal.returns-in_err-new-in-Enters-clause-gives
returns-in_err-new-in-Enters-clause-gives g c = λ files left h.
    let off = ap (λ b. entered_inside (folder left) b c.args.line (arguments_data c.args.arguments.now)) (sym c.if-gives_disabler.false ∙ c.gives_disabler.ensures) in
    let w = c.in_ok-subdir.ensures.gives files h in
    comes_end (leads_other off (leads_next w)) (comes_none w.holds c.from_residual-in_err-new-in-Enters.ensures.1)

pub returns-in_ok-new-in-Enters-clause-gives : goal.returns-in_ok-new-in-Enters-clause-gives
returns-in_ok-new-in-Enters-clause-gives g c = λ files left h.
    let off = ap (λ b. entered_inside (folder left) b c.args.line (arguments_data c.args.arguments.now)) (sym c.if-gives_disabler.false ∙ c.gives_disabler.ensures) in
    record {
      comes = leads_as (ap (λ (e : FolderEntry). folder_in_expression {A = Data} left e) (sym c.in_ok-new-in-Enters.ensures.ok))
          (leads_other off (leads_as (ap (λ (x : AfterCall). next (on_call_end (folder left) (after_call_view x)) (λ _. refuse {A = Data} c.args.line refusals.Type [])) c.in-Enters.is) (leads_next (c.in_ok-subdir.ensures.gives files h))));
    }
