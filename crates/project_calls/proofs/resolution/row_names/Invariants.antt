use Rattle.std.proofs.Common.{◌≡◌, map, take}
use Rattle.build.specs.edge.Texts.{texts}
use Rattle.project_calls.proofs.resolution.row_names.Given as goal

abbrev pub invariant-loop-row : goal.invariant-loop-row
invariant-loop-row l = texts l.names.items ≡ map (λ row. row.name.now) (take l.row-index l.rows)
