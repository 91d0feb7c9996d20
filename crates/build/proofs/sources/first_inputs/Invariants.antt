use Rattle.std.proofs.Common.{◌≡◌, [], map}
use Rattle.build.specs.edge.Texts.{texts}
use Rattle.build.specs.Sources.{InputData, put_inputs}
use Rattle.build.specs.Inputs.{input_view}
use Rattle.build.proofs.sources.first_inputs.Given as goal

abbrev pub invariant-loop-input : goal.invariant-loop-input
invariant-loop-input l = record {
  kept : map input_view l.kept.items ≡ put_inputs [] (map input_view l.yielded);
  seen : texts l.seen.keys ≡ map (λ (i : InputData). i.path) (map input_view l.kept.items);
}
