use Rattle.interp.proofs.Machines.{machine_files_say}
use Rattle.interp.proofs.law.machine_files_say.Goals as goal

pub returns : goal.returns
returns c = machine_files_say
