use Rattle.ports.specs.Outputs.{all, opening_steps}
use Rattle.configuration_calls.proofs.Telling.{acts_told, acts_untold, nothing_sent}
use Rattle.configuration_calls.proofs.output_file.open.Goals as goal

pub returns-in_err-open-clause-acts : goal.returns-in_err-open-clause-acts
returns-in_err-open-clause-acts g c = acts_untold (nothing_sent (opening_steps c.args.path.now) c.in_err-open.ensures.took) c.in_err-open.ensures.took.failures c.from_residual.ensures.1

pub returns-clause-acts : goal.returns-clause-acts
returns-clause-acts g c = acts_told (all c.in_ok-open.ensures.took.takes) c.in_ok-open.ensures.took.failures
