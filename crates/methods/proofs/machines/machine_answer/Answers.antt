use Rattle.std.proofs.Common.{ap, sym, ◌∙◌}
use Rattle.methods.specs.Machines.{told_by}
use Rattle.world.proofs.Answering.{carries_as, carries_refuse}
use Rattle.methods.proofs.machines.machine_answer.Goals as goal

pub returns-in-Some : goal.returns-in-Some
returns-in-Some g c = carries_as (ap told_by (sym c.in-Some.is ∙ c.of_machine.ensures)) c.tell_machine.ensures

pub returns-in-None : goal.returns-in-None
returns-in-None g c = carries_as (ap told_by (sym c.in-None.is ∙ c.of_machine.ensures)) (carries_refuse c.refuse.ensures)
