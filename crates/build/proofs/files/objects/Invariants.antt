use Rattle.std.proofs.Common.{◌≡◌, map, take}
use Rattle.build.specs.edge.Texts.{texts}
use Rattle.build.specs.edge.Paths.{object_path}
use Rattle.build.specs.Inputs.{input_view}
use Rattle.build.proofs.files.objects.Given as goal

abbrev pub invariant-loop-input : goal.invariant-loop-input
invariant-loop-input l = texts l.objects.items ≡ map (λ i. object_path l.file i.name) (map input_view (take l.input-index l.inputs))
