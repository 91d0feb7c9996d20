use Rattle.std.proofs.Common.{◌≡◌, ◌++◌, string_bytes}
use Rattle.build.specs.edge.Paths.{way_up}
use Rattle.build.proofs.edge.seen_paths.push_way_up.Given as goal

abbrev pub invariant-loop : goal.invariant-loop
invariant-loop l = string_bytes l.path ≡ string_bytes l.fn.path ++ way_up l.counter
