use Rattle.std.proofs.Common.{◌∙◌}
use Rattle.machine_file.specs.View.{machine_in, entries_of}
use Rattle.machine_file.proofs.Looking.{got}
use Rattle.machine_file.proofs.machine.Machine.get.Goals as goal

pub returns : goal.returns
returns c = c.get.ensures
    ∙ got (machine_in c.args.self.now) c.args.section.now c.args.key.now (entries_of c.in_ok-section.section.now) c.in_ok-section.ensures
