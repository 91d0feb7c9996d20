use Rattle.std.proofs.Common.{refl}
use Rattle.arguments.specs.Arguments.{arguments_data}
use Rattle.build.specs.project.View.{test_view}
use Rattle.world.proofs.Answering.{carries_give, carries_stop, carries_then}
use Rattle.world.proofs.Settling.{carries_given, carries_says_of}
use Rattle.resource_calls.specs.RunsView.{run_view}
use Rattle.world.specs.Here.{here_of}
use Rattle.resource_calls.specs.Runs.{run_of}
use Rattle.resource_calls.specs.Tests.{said_run, test, test_given}
use Rattle.resource_calls.proofs.test_calls.test.Goals as goal

pub returns-in_err-run : goal.returns-in_err-run
unfolding test said_run
returns-in_err-run g c = carries_stop (carries_says_of {view = run_view} (λ h. run_of h (arguments_data c.args.arguments.now)) here_of c.run_of.result
    c.run_of.ensures c.here.ensures c.in_err-run.ensures) c.from_residual.ensures.1

pub returns-in_err-planned : goal.returns-in_err-planned
unfolding test said_run
returns-in_err-planned g c =
    carries_then {x = c.in_ok-run.run'} (carries_says_of {view = run_view} (λ h. run_of h (arguments_data c.args.arguments.now)) here_of c.run_of.result
    c.run_of.ensures c.here.ensures c.in_ok-run.ensures)
    (carries_stop (carries_given {view = test_view} (test_given (arguments_data c.args.arguments.now) (run_view c.in_ok-run.run'))
    c.test_given.result c.test_given.ensures c.in_err-planned.ensures) c.from_residual-in_err-planned.ensures.1)

pub returns-in_err-add_test : goal.returns-in_err-add_test
unfolding test said_run
returns-in_err-add_test g c =
    carries_then {x = c.in_ok-run.run'} (carries_says_of {view = run_view} (λ h. run_of h (arguments_data c.args.arguments.now)) here_of c.run_of.result
    c.run_of.ensures c.here.ensures c.in_ok-run.ensures)
    (carries_then {x = c.in_ok-planned.planned}
    (carries_given {view = test_view} (test_given (arguments_data c.args.arguments.now) (run_view c.in_ok-run.run'))
    c.test_given.result c.test_given.ensures c.in_ok-planned.ensures)
    (carries_stop c.in_err-add_test.ensures c.from_residual-in_err-add_test.ensures.1))

pub returns : goal.returns
unfolding test said_run
returns g c =
    carries_then {x = c.in_ok-run.run'} (carries_says_of {view = run_view} (λ h. run_of h (arguments_data c.args.arguments.now)) here_of c.run_of.result
    c.run_of.ensures c.here.ensures c.in_ok-run.ensures)
    (carries_then {x = c.in_ok-planned.planned}
    (carries_given {view = test_view} (test_given (arguments_data c.args.arguments.now) (run_view c.in_ok-run.run'))
    c.test_given.result c.test_given.ensures c.in_ok-planned.ensures)
    (carries_then c.in_ok-add_test.ensures (carries_give refl)))
