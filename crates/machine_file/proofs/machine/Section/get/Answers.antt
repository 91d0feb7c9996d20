use Rattle.std.proofs.Common.{◌∙◌, ap}
use Rattle.std.specs.Option.{option_map}
use Rattle.machine_file.specs.View.{value_in}
use Rattle.machine_file.specs.declared.machine.Entry.{Entry}
use Rattle.machine_file.proofs.Looking.{value_found}
use Rattle.machine_file.proofs.machine.Section.get.Goals as goal

pub returns-in-Some : goal.returns-in-Some
returns-in-Some c = ap (option_map (λ (x : Entry). value_in x.value)) c.in-Some.ensures.value
    ∙ value_found c.args.key.now c.args.self.now.entries.entries

pub returns-in-None : goal.returns-in-None
returns-in-None c = ap (option_map (λ (x : Entry). value_in x.value)) c.in-None.ensures.value
    ∙ value_found c.args.key.now c.args.self.now.entries.entries
