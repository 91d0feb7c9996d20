use Rattle.std.proofs.Common.{map, string_bytes, ap, refl}
use Rattle.arguments.specs.Arguments.{arguments_data}
use Rattle.options.specs.option_file.View.{options_in}
use Rattle.std.specs.Prelude.{codes, not}
use Rattle.support.specs.declared.faults.refusal.Refusal.TheVariants as refusals
use Rattle.project_calls.specs.Project.{project}
use Rattle.project_calls.specs.Resolution.{resolution}
use Rattle.world.specs.Deed.{need}
use Rattle.world.proofs.Answering.{carries_as, carries_give, carries_read, carries_stop, carries_then}
use Rattle.project_calls.proofs.project_call.project.Goals as goal

pub returns-in_err-need : goal.returns-in_err-need
unfolding project
returns-in_err-need g c =
    carries_read (carries_stop (carries_as (ap (λ b. need (not b) refusals.ProjectCall (codes "'project': was called before")) c.is_begun-is_begun.ensures) c.in_err-need.ensures)
    c.from_residual.ensures.1)

pub returns-in_err-printed : goal.returns-in_err-printed
unfolding project
returns-in_err-printed g c =
    carries_read (carries_then (carries_as (ap (λ b. need (not b) refusals.ProjectCall (codes "'project': was called before")) c.is_begun-is_begun.ensures) c.in_ok-need.ensures)
    (carries_stop c.in_err-printed.ensures c.from_residual-in_err-printed.ensures.1))

pub returns-in_err-require_c : goal.returns-in_err-require_c
unfolding project
returns-in_err-require_c g c =
    carries_read (carries_then (carries_as (ap (λ b. need (not b) refusals.ProjectCall (codes "'project': was called before")) c.is_begun-is_begun.ensures) c.in_ok-need.ensures)
    (carries_then c.in_ok-printed.ensures (carries_stop c.in_err-require_c.ensures c.from_residual-in_err-require_c.ensures.1)))

pub returns-in_err-file : goal.returns-in_err-file
unfolding project
returns-in_err-file g c =
    carries_read (carries_then (carries_as (ap (λ b. need (not b) refusals.ProjectCall (codes "'project': was called before")) c.is_begun-is_begun.ensures) c.in_ok-need.ensures)
    (carries_then c.in_ok-printed.ensures (carries_then c.in_ok-require_c.ensures (carries_stop c.in_err-file.ensures c.from_residual-in_err-file.ensures.1))))

pub returns-in_err-resolved : goal.returns-in_err-resolved
unfolding project
returns-in_err-resolved g c =
    let a = arguments_data c.args.arguments.now in
    carries_read (carries_then (carries_as (ap (λ b. need (not b) refusals.ProjectCall (codes "'project': was called before")) c.is_begun-is_begun.ensures) c.in_ok-need.ensures)
    (carries_then c.in_ok-printed.ensures (carries_then c.in_ok-require_c.ensures (carries_then c.in_ok-file.ensures
    (carries_stop (carries_as (ap (λ ps. resolution a (map string_bytes ps) (options_in c.in_ok-file.file.declared)) c.deref.ensures.value) c.in_err-resolved.ensures)
    c.from_residual-in_err-resolved.ensures.1)))))

pub returns-in_err-begin : goal.returns-in_err-begin
unfolding project
returns-in_err-begin g c =
    let a = arguments_data c.args.arguments.now in
    carries_read (carries_then (carries_as (ap (λ b. need (not b) refusals.ProjectCall (codes "'project': was called before")) c.is_begun-is_begun.ensures) c.in_ok-need.ensures)
    (carries_then c.in_ok-printed.ensures (carries_then c.in_ok-require_c.ensures (carries_then c.in_ok-file.ensures
    (carries_then (carries_as (ap (λ ps. resolution a (map string_bytes ps) (options_in c.in_ok-file.file.declared)) c.deref.ensures.value) c.in_ok-resolved.ensures)
    (carries_stop c.in_err-begin.ensures c.from_residual-in_err-begin.ensures.1))))))

pub returns : goal.returns
unfolding project
returns g c =
    let a = arguments_data c.args.arguments.now in
    carries_read (carries_then (carries_as (ap (λ b. need (not b) refusals.ProjectCall (codes "'project': was called before")) c.is_begun-is_begun.ensures) c.in_ok-need.ensures)
    (carries_then c.in_ok-printed.ensures (carries_then c.in_ok-require_c.ensures (carries_then c.in_ok-file.ensures
    (carries_then (carries_as (ap (λ ps. resolution a (map string_bytes ps) (options_in c.in_ok-file.file.declared)) c.deref.ensures.value) c.in_ok-resolved.ensures)
    (carries_then c.in_ok-begin.ensures (carries_give refl)))))))
