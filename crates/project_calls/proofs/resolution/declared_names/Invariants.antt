use Rattle.std.proofs.Common.{◌≡◌, take}
use Rattle.build.specs.edge.Texts.{texts}
use Rattle.options.specs.option_file.View.{options_in}
use Rattle.project_calls.specs.Resolution.{declared_names}
use Rattle.project_calls.proofs.resolution.declared_names.Given as goal

abbrev pub invariant-loop-i : goal.invariant-loop-i
invariant-loop-i l = texts l.names.items ≡ declared_names (take l.i (options_in l.declared))
