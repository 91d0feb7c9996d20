use Rattle.std.proofs.Common.{ap}
use Rattle.world.specs.Deed.{there}
use Rattle.world.proofs.Answering.{carries_as, carries_stop, carries_then}
use Rattle.resource_calls.specs.Programs.{file_named}
use Rattle.resource_calls.proofs.programs.file_named.Goals as goal

pub returns-in_err-path : goal.returns-in_err-path
unfolding file_named
returns-in_err-path g c = carries_stop c.in_err-path.ensures c.from_residual.ensures.1

pub returns-in_err-found : goal.returns-in_err-found
unfolding file_named
returns-in_err-found g c =
    carries_then {x = c.in_ok-path.path} c.in_ok-path.ensures
    (carries_stop (carries_as (ap there c.as_str.ensures.value) c.in_err-found.ensures) c.from_residual-in_err-found.ensures.1)

pub returns : goal.returns
unfolding file_named
returns g c =
    carries_then {x = c.in_ok-path.path} c.in_ok-path.ensures
    (carries_then {x = c.in_ok-found.found} (carries_as (ap there c.as_str.ensures.value) c.in_ok-found.ensures) c.program_at.ensures)
