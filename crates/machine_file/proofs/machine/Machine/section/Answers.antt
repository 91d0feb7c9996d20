use Rattle.machine_file.proofs.Looking.{section_found}
use Rattle.machine_file.proofs.machine.Machine.section.Goals as goal

pub returns : goal.returns
returns c = section_found c.args.name.now c.args.self.now.sections.entries c.get.result c.get.ensures.value
