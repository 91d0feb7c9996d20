use Rattle.std.proofs.Common.{◌≡◌, ◌++◌, take, string_bytes, codes}
use Rattle.std.specs.Prelude.{flat_map}
use Rattle.build.specs.edge.Texts.{texts}
use Rattle.build.specs.target_edges.Edges.{and_path}
use Rattle.build.proofs.target_edges.custom.description.Given as goal

abbrev pub invariant-loop-path : goal.invariant-loop-path
invariant-loop-path l = string_bytes l.text ≡ codes "Generating" ++ flat_map and_path (texts (take l.path-index l.paths))
