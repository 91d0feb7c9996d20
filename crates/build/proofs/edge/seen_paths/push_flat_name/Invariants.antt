use Rattle.std.proofs.Common.{◌≡◌, ◌++◌, length, string_bytes, IsUtf8}
use Rattle.build.specs.edge.Paths.{flat_name}
use Rattle.build.proofs.edge.seen_paths.push_flat_name.Given as goal

abbrev pub invariant-loop-part : goal.invariant-loop-part
invariant-loop-part l = (string_bytes l.name ++ flat_name l.rest ≡ string_bytes l.fn.name ++ flat_name l.fn.path) × IsUtf8 l.rest

abbrev pub decreases-loop-part : goal.decreases-loop-part
decreases-loop-part l = length l.rest
