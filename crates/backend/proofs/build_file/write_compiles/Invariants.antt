use Rattle.std.proofs.Common.{take}
use Rattle.std.specs.List.{flat_map}
use Rattle.ports.specs.Endings.{Whole}
use Rattle.ports.specs.Outputs.{Writes, puts}
use Rattle.ninja.specs.Writing.{edge_text}
use Rattle.backend.proofs.TargetTexts.{edge_for}
use Rattle.backend.proofs.build_file.write_compiles.Given as goal

abbrev pub invariant-loop-input : goal.invariant-loop-input
invariant-loop-input g l =
    Writes (g.O.Outputs.seen l.fn.out) (flat_map (λ i. puts (edge_text (edge_for l.parts i))) (take l.input-index l.parts.inputs.items)) Whole (g.O.Outputs.seen l.out)
