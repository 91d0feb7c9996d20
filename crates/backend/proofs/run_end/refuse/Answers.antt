use Rattle.support.specs.View.{fault_view}
use Rattle.backend.proofs.Ends.{agrees_fault, device_fault}
use Rattle.backend.proofs.run_end.refuse.Goals as goal

pub returns-clause-agrees : goal.returns-clause-agrees
returns-clause-agrees g c = rw (c.status_of_fault.ensures) (agrees_fault (fault_view c.args.fault.now) c.write_fault-answer.result c.write_fault-answer.ensures)

pub returns-clause-device : goal.returns-clause-device
returns-clause-device g c = rw (c.status_of_fault.ensures) (device_fault c.write_fault-answer.result c.write_fault-answer.ensures)
