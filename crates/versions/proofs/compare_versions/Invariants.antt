use Rattle.std.proofs.Common.{◌≡◌, length}
use Rattle.versions.specs.Version.{version_order}
use Rattle.versions.proofs.compare_versions.Given as goal

abbrev pub invariant-loop-run : goal.invariant-loop-run
invariant-loop-run l = version_order l.left l.right ≡ version_order l.version l.other

abbrev pub decreases-loop-run : goal.decreases-loop-run
decreases-loop-run l = length l.left
