use Rattle.std.proofs.Common.{map, string_bytes}
use Rattle.std.specs.Vec.Iter.{into_iter_items}
use Rattle.world.specs.Answering.{Leads}
use Rattle.world.specs.Caller.{state_of}
use Rattle.target_calls.specs.Files.{all_required}
use Rattle.target_calls.proofs.tree.require_all.Given as goal

-- what was done, and what is left
abbrev pub invariant-loop-path : goal.invariant-loop-path
invariant-loop-path g l =
    Leads (all_required (map string_bytes l.fn.paths.items)) (state_of g.T.Tree.seen g.O.Outputs.seen l.fn.caller)
    (all_required (map string_bytes (into_iter_items l.path-iterator))) (state_of g.T.Tree.seen g.O.Outputs.seen l.caller)
