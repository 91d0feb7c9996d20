use Rattle.std.proofs.Common.{length}
use Rattle.values.specs.View.{data_of}
use Rattle.values.specs.printing.Pieces.{pieces}
use Rattle.world.specs.Answering.{Leads}
use Rattle.world.specs.Caller.{state_of}
use Rattle.language_calls.specs.Saying.{say_each}
use Rattle.language_calls.proofs.messages.say_value.Given as goal

-- what was said, and what is left
abbrev pub invariant-loop-printer : goal.invariant-loop-printer
invariant-loop-printer g l =
    Leads (say_each (pieces (data_of l.value))) (state_of g.T.Tree.seen g.O.Outputs.seen l.fn.caller)
    (say_each l.printer) (state_of g.T.Tree.seen g.O.Outputs.seen l.caller)

abbrev pub decreases-loop-printer : goal.decreases-loop-printer
decreases-loop-printer g l = length l.printer
