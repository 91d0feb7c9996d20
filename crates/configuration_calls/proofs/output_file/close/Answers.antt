use Rattle.ports.specs.Outputs.{all, closing_steps}
use Rattle.configuration_calls.proofs.Telling.{acts_told, acts_untold, nothing_sent}
use Rattle.configuration_calls.proofs.output_file.close.Goals as goal

pub returns-in_err-close : goal.returns-in_err-close
returns-in_err-close g c = acts_untold (nothing_sent closing_steps c.in_err-close.ensures) c.in_err-close.ensures.failures c.from_residual.ensures.1

pub returns : goal.returns
returns g c = acts_told (all c.in_ok-close.ensures.takes) c.in_ok-close.ensures.failures
