use Rattle.std.proofs.Common.{take}
use Rattle.ports.specs.Endings.{Whole}
use Rattle.ports.specs.Outputs.{Writes}
use Rattle.ninja.specs.Steps.{paths_steps}
use Rattle.ninja.proofs.edges.write_paths.Given as goal

abbrev pub invariant-loop-path : goal.invariant-loop-path
invariant-loop-path g l = Writes (g.O.Outputs.seen l.fn.out) (paths_steps (take l.path-index l.paths)) Whole (g.O.Outputs.seen l.out)
