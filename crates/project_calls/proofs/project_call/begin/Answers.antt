use Rattle.std.proofs.Common.{map, string_bytes, ap}
use Rattle.world.specs.Deed.{begin_project}
use Rattle.world.proofs.Answering.{carries_as, carries_change, carries_none, carries_read, carries_stop, carries_then}
use Rattle.project_calls.specs.Project.{begin, option_warnings}
use Rattle.project_calls.proofs.project_call.begin.Goals as goal

pub returns-in_err-warn : goal.returns-in_err-warn
unfolding begin
returns-in_err-warn g c = carries_stop (carries_as (ap (λ ns. option_warnings (map string_bytes ns)) c.deref.ensures.value) c.in_err-warn.ensures) c.from_residual.ensures.1

pub returns-in_err-options : goal.returns-in_err-options
unfolding begin
returns-in_err-options g c =
    carries_then (carries_as (ap (λ ns. option_warnings (map string_bytes ns)) c.deref.ensures.value) c.in_ok-warn.ensures)
    (carries_read (carries_stop c.in_err-options.ensures c.from_residual-in_err-options.ensures.1))

pub returns-in_err-programs : goal.returns-in_err-programs
unfolding begin
returns-in_err-programs g c =
    carries_then (carries_as (ap (λ ns. option_warnings (map string_bytes ns)) c.deref.ensures.value) c.in_ok-warn.ensures)
    (carries_read (carries_then c.in_ok-options.ensures (carries_stop c.in_err-programs.ensures c.from_residual-in_err-programs.ensures.1)))

pub returns-in_err-facts : goal.returns-in_err-facts
unfolding begin
returns-in_err-facts g c =
    carries_then (carries_as (ap (λ ns. option_warnings (map string_bytes ns)) c.deref.ensures.value) c.in_ok-warn.ensures)
    (carries_read (carries_then c.in_ok-options.ensures
    (carries_then c.in_ok-programs.ensures (carries_read (carries_none c.from_residual-in_err-facts.ensures.1)))))

pub returns : goal.returns
unfolding begin
returns g c =
    carries_then (carries_as (ap (λ ns. option_warnings (map string_bytes ns)) c.deref.ensures.value) c.in_ok-warn.ensures)
    (carries_read (carries_then c.in_ok-options.ensures (carries_then c.in_ok-programs.ensures (carries_read
    (carries_then {x = tt {0}} (carries_change {view = λ u. u} c.set_options.ensures.world c.set_options.ensures.names) (carries_as (ap begin_project c.in_ok-facts.ensures) c.begin.ensures))))))
