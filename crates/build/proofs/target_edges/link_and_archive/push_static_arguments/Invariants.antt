use Rattle.std.proofs.Common.{◌≡◌, ◌++◌, take}
use Rattle.std.specs.Prelude.{flat_map}
use Rattle.build.specs.edge.Texts.{texts}
use Rattle.build.specs.DeclaredTargetViews.{declared_target_views}
use Rattle.build.specs.target_edges.Words.{static_arguments}
use Rattle.build.proofs.target_edges.link_and_archive.push_static_arguments.Given as goal

abbrev pub invariant-loop-number : goal.invariant-loop-number
invariant-loop-number l = texts l.words.items ≡ texts l.fn.words.items ++ flat_map (static_arguments (declared_target_views l.earlier)) (take l.number-index l.numbers)
