use Rattle.backend.proofs.FaultLines.{line_steps-faults}
use Rattle.support.specs.View.{fault_view}
use Rattle.backend.proofs.fault.write_fault.Goals as goal

pub returns : goal.returns
returns g c = rw (line_steps-faults (fault_view c.args.fault.now)) at c.write_line.ensures
