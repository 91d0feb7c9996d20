use Rattle.std.proofs.Common.{length}
use Rattle.build.proofs.target_edges.relative_paths.+push_way_between.Given as goal

abbrev pub decreases-push_way_between : goal.decreases-push_way_between
decreases-push_way_between l = length l.from.now
