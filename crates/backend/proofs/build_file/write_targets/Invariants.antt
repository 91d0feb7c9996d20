use Rattle.ports.specs.Endings.{Whole}
use Rattle.ports.specs.Outputs.{Writes}
use Rattle.backend.proofs.Parts.{first_steps}
use Rattle.backend.proofs.build_file.write_targets.Given as goal

abbrev pub invariant-loop-number : goal.invariant-loop-number
invariant-loop-number g l = Writes (g.O.Outputs.seen l.fn.out) (first_steps l.project l.number) Whole (g.O.Outputs.seen l.out)
