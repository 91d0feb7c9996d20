-- What the bytes of a machine file say: one thing, and no other.
use Rattle.machine_file.proofs.Saying.{same_said, some_said}
use Rattle.interp.specs.Laws.{MachineFilesSay}

pub machine_files_say : MachineFilesSay
machine_files_say = record { something = some_said; once = same_said }
