use Rattle.std.proofs.Common.{◌≡◌, ◌++◌, take}
use Rattle.std.specs.Prelude.{flat_map}
use Rattle.build.specs.edge.Texts.{texts}
use Rattle.build.specs.Sources.{if_not_c}
use Rattle.build.proofs.sources.push_all_but_c.Given as goal

abbrev pub invariant-loop-path : goal.invariant-loop-path
invariant-loop-path l = texts l.paths.items ≡ texts l.fn.paths.items ++ flat_map if_not_c (texts (take l.path-index l.made))
