use Rattle.std.proofs.Common.{◌≡◌, map, take}
use Rattle.build.specs.edge.Texts.{texts}
use Rattle.support.specs.paths.Paths.{path_in}
use Rattle.build.proofs.files.paths_in.Given as goal

abbrev pub invariant-loop-name : goal.invariant-loop-name
invariant-loop-name l = texts l.paths.items ≡ map (path_in l.folder) (texts (take l.name-index l.names))
