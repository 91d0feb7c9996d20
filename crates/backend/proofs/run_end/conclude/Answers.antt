use Rattle.backend.proofs.Ends.{agrees_outputs, device_outputs}
use Rattle.backend.proofs.run_end.conclude.Goals as goal

pub returns-clause-agrees : goal.returns-clause-agrees
returns-clause-agrees g c = rw (c.status_of_outputs.ensures) (agrees_outputs c.args.project.now c.write_outputs-answer.result c.write_outputs-answer.ensures)

pub returns-clause-device : goal.returns-clause-device
returns-clause-device g c = rw (c.status_of_outputs.ensures) (device_outputs c.write_outputs-answer.result c.write_outputs-answer.ensures)
