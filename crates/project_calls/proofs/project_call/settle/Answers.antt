use Rattle.std.proofs.Common.{ap, refl, sym, ◌∙◌}
use Rattle.world.proofs.Detailed.{carries_refused_about}
use Rattle.options.specs.Faults.{file_of, line_of, told_in}
use Rattle.options.specs.View.{fault_in, outcome_in}
use Rattle.world.proofs.Answering.{carries_as, carries_give, carries_none}
use Rattle.project_calls.specs.Project.{settled_options}
use Rattle.project_calls.proofs.project_call.settle.Goals as goal

pub returns-in-Ok : goal.returns-in-Ok
unfolding settled_options
returns-in-Ok g c = carries_as (ap (λ o. settled_options c.args.path.now (outcome_in o) c.args.caller.now.store.now.line) (sym c.in-Ok.is)) (carries_give refl)

pub returns-in_err-tell_in-in-Err : goal.returns-in_err-tell_in-in-Err
returns-in_err-tell_in-in-Err g c = carries_none c.from_residual.ensures.1

pub returns-in_ok-tell_in-in-Err : goal.returns-in_ok-tell_in-in-Err
unfolding settled_options
returns-in_ok-tell_in-in-Err g c =
    let fault = fault_in c.in-Err.fault in
    let line = c.args.caller.now.store.now.line in
    let path = c.args.path.now in
    carries_as (ap (λ o. settled_options path (outcome_in o) line) (sym c.in-Err.is))
    (carries_refused_about (file_of path fault.place) (line_of line fault.place) fault.refusal fault.detail c.in_ok-tell_in-in-Err.field-0
    (c.in_ok-tell_in-in-Err.ensures ∙ ap (λ n. told_in path n fault) c.line-line.ensures))
