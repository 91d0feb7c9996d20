use Rattle.std.proofs.Common.{◌≡◌, ◌++◌, string_bytes}
use Rattle.build.specs.target_edges.Ways.{steps_up}
use Rattle.build.proofs.target_edges.relative_paths.push_up.Given as goal

abbrev pub invariant-loop : goal.invariant-loop
invariant-loop l = string_bytes l.way ≡ string_bytes l.fn.way ++ steps_up l.counter
