use Rattle.std.proofs.Common.{◌≡◌, ◌++◌, length, string_bytes, IsUtf8}
use Rattle.support.specs.paths.Names.{before_dot}
use Rattle.support.proofs.paths.names.before_dot.Given as goal

abbrev pub invariant-loop-part : goal.invariant-loop-part
invariant-loop-part l = (string_bytes l.front ++ before_dot l.rest ≡ before_dot l.fn.name) × IsUtf8 l.rest

abbrev pub decreases-loop-part : goal.decreases-loop-part
decreases-loop-part l = length l.rest
