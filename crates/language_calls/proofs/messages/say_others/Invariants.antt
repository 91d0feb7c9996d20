use Rattle.std.proofs.Common.{map, drop}
use Rattle.values.specs.View.{data_of}
use Rattle.world.specs.Answering.{Leads}
use Rattle.world.specs.Caller.{state_of}
use Rattle.language_calls.specs.Saying.{behind_spaces, say_each}
use Rattle.language_calls.proofs.messages.say_others.Given as goal

-- what was said, and what is left
abbrev pub invariant-loop-value : goal.invariant-loop-value
invariant-loop-value g l =
    Leads (say_each (behind_spaces (map data_of l.values))) (state_of g.T.Tree.seen g.O.Outputs.seen l.fn.caller)
    (say_each (behind_spaces (map data_of (drop l.value-index l.values)))) (state_of g.T.Tree.seen g.O.Outputs.seen l.caller)
