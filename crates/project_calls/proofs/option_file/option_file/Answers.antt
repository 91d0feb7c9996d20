use Rattle.world.proofs.Answering.{carries_stop, carries_then}
use Rattle.project_calls.specs.OptionFile.{option_file}
use Rattle.project_calls.proofs.option_file.option_file.Goals as goal

pub returns-in_err-found : goal.returns-in_err-found
unfolding option_file
returns-in_err-found g c = carries_stop c.in_err-found.ensures c.from_residual.ensures.1

pub returns : goal.returns
unfolding option_file
returns g c = carries_then c.in_ok-found.ensures c.option_file_by.ensures
