use Rattle.std.proofs.Common.{◌≡◌, ◌≤◌, length}
use Rattle.versions.specs.Version.{runs}
use Rattle.versions.proofs.without_separators.Given as goal

abbrev pub invariant-loop-first : goal.invariant-loop-first
invariant-loop-first l = record { same : runs l.from ≡ runs l.version; within : length l.from ≤ length l.version }

abbrev pub decreases-loop-first : goal.decreases-loop-first
decreases-loop-first l = length l.from
