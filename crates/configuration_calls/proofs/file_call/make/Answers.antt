use Rattle.std.proofs.Common.{Some, ap}
use Rattle.arguments.specs.Arguments.{arguments_data}
use Rattle.world.proofs.Answering.{carries_as, carries_give}
use Rattle.configuration_calls.specs.ConfigureFile.{installed_output, output_file}
use Rattle.configuration_calls.proofs.Filling.{of_fixed, of_none, of_stop, of_then}
use Rattle.configuration_calls.proofs.file_call.make.Goals as goal

pub returns-in_err-path : goal.returns-in_err-path
unfolding output_file
returns-in_err-path g c = of_stop c.in_err-path.ensures c.from_residual.ensures.1

pub returns-in_err-install : goal.returns-in_err-install
unfolding output_file
returns-in_err-install g c =
    of_then c.in_ok-path.ensures
    (of_stop (of_fixed (carries_as (ap (λ p. installed_output p (arguments_data c.args.arguments.now)) c.as_str.ensures.text) c.in_err-install.ensures)) c.from_residual-in_err-install.ensures.1)

pub returns-in_err-value : goal.returns-in_err-value
unfolding output_file
returns-in_err-value g c =
    of_then c.in_ok-path.ensures
    (of_then (of_fixed (carries_as (ap (λ p. installed_output p (arguments_data c.args.arguments.now)) c.as_str.ensures.text) c.in_ok-install.ensures)) (of_none c.from_residual-in_err-value.ensures.1))

pub returns : goal.returns
unfolding output_file
returns g c =
    of_then c.in_ok-path.ensures
    (of_then (of_fixed (carries_as (ap (λ p. installed_output p (arguments_data c.args.arguments.now)) c.as_str.ensures.text) c.in_ok-install.ensures)) (of_fixed (carries_give (ap Some c.in_ok-value.ensures))))
