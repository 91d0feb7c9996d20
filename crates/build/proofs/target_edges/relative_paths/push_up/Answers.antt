use Rattle.std.proofs.Common.{string_bytes}
use Rattle.build.proofs.WayTexts.{steps_up-more}
use Rattle.build.proofs.target_edges.relative_paths.push_up.Goals as goal

pub loop-preserved : goal.loop-preserved
loop-preserved c = steps_up-more (string_bytes c.args.way.now) (string_bytes c.loop.way) (string_bytes c.push_str.new.self) c.loop.counter c.loop.invariant c.in_ok-push_str.ensures.bytes
