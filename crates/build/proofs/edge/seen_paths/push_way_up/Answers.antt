use Rattle.std.proofs.Common.{string_bytes}
use Rattle.build.proofs.PathTexts.{way_up-more}
use Rattle.build.proofs.edge.seen_paths.push_way_up.Goals as goal

pub loop-preserved : goal.loop-preserved
loop-preserved c = way_up-more (string_bytes c.args.path.now) (string_bytes c.loop.path) (string_bytes c.push_str.new.self) c.loop.counter c.loop.invariant c.in_ok-push_str.ensures.bytes
