use Rattle.std.proofs.Common.{take}
use Rattle.std.specs.List.{flat_map}
use Rattle.ports.specs.Endings.{Whole}
use Rattle.ports.specs.Outputs.{Writes}
use Rattle.ninja.specs.Tail.{default_steps}
use Rattle.ninja.proofs.file.write_defaults.Given as goal

abbrev pub invariant-loop-linked : goal.invariant-loop-linked
invariant-loop-linked g l = Writes (g.O.Outputs.seen l.fn.out) (flat_map default_steps (take l.linked-index l.targets)) Whole (g.O.Outputs.seen l.out)
