use Rattle.std.proofs.Common.{◌≡◌, ◌++◌, map, take, string_bytes}
use Rattle.std.specs.Prelude.{flat_map}
use Rattle.build.specs.target_edges.Ways.{step_down}
use Rattle.build.proofs.target_edges.relative_paths.push_down.Given as goal

abbrev pub invariant-loop-part : goal.invariant-loop-part
invariant-loop-part l = string_bytes l.way ≡ string_bytes l.fn.way ++ flat_map step_down (map (λ s. s.now) (take l.part-index l.to))
