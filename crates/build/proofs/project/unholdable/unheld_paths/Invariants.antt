use Rattle.std.proofs.Common.{◌≡◌, drop}
use Rattle.build.specs.edge.Texts.{texts}
use Rattle.build.specs.project.Unheld.{unheld_paths}
use Rattle.build.proofs.project.unholdable.unheld_paths.Given as goal

-- what is left decides
abbrev pub invariant-loop-path : goal.invariant-loop-path
invariant-loop-path l = unheld_paths (texts (drop l.path-index l.paths)) ≡ unheld_paths (texts l.paths)
