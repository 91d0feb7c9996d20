use Rattle.std.proofs.Common.{refl}
use Rattle.byte_devices.proofs.SpelledTree.{Spells-same}
use Rattle.embedding.proofs.Ran.{events_told}
use Rattle.embedding.proofs.slice_run.keep_run.Goals as goal

pub returns-in-Done : goal.returns-in-Done
returns-in-Done c = λ files said spelled is.
    let same = Spells-same _ _ _ files _ spelled c.in-Ok.ensures.spelled in
    let agrees = c.in-Done.ensures.run files said (record { steady = refl; files = same }) is in
    record { is_status = agrees.status refl; events = events_told _ _ _ c.new-out.ensures agrees.events }

pub returns-in-Fault : goal.returns-in-Fault
returns-in-Fault c = λ files said spelled is.
    let same = Spells-same _ _ _ files _ spelled c.in-Ok.ensures.spelled in
    let agrees = c.in-Fault.ensures.run files said (record { steady = refl; files = same }) is in
    record { is_status = agrees.status refl; events = events_told _ _ _ c.new-out.ensures agrees.events }
