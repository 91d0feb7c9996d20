use Rattle.std.proofs.Common.{ap, sym}
use Rattle.arguments.specs.Arguments.{arguments_data}
use Rattle.world.proofs.Answering.{carries_as, carries_stop, carries_then}
use Rattle.resource_calls.specs.Programs.{find_program, found_program, program_result}
use Rattle.resource_calls.proofs.programs.find_program.Goals as goal

pub returns-in_err-found : goal.returns-in_err-found
unfolding find_program
returns-in_err-found g c = carries_stop c.in_err-found.ensures c.from_residual.ensures.1

pub returns-in-Some : goal.returns-in-Some
unfolding find_program program_result found_program
returns-in-Some g c =
    carries_then {x = c.in_ok-found.found} c.in_ok-found.ensures
    (carries_as (ap (program_result (arguments_data c.args.arguments.now)) (sym c.in-Some.is)) c.return_object.ensures)

pub returns-in-None : goal.returns-in-None
unfolding find_program program_result
returns-in-None g c =
    carries_then {x = c.in_ok-found.found} c.in_ok-found.ensures
    (carries_as (ap (program_result (arguments_data c.args.arguments.now)) (sym c.in-None.is)) c.no_program.ensures)
