use Rattle.std.proofs.Common.{map, drop, string_bytes}
use Rattle.world.specs.Answering.{Leads}
use Rattle.world.specs.Caller.{state_of}
use Rattle.project_calls.specs.Project.{option_warnings}
use Rattle.project_calls.proofs.project_call.warn.Given as goal

-- what was said, and what is left
abbrev pub invariant-loop-name : goal.invariant-loop-name
invariant-loop-name g l =
    Leads (option_warnings (map string_bytes l.names)) (state_of g.T.Tree.seen g.O.Outputs.seen l.fn.caller)
    (option_warnings (map string_bytes (drop l.name-index l.names))) (state_of g.T.Tree.seen g.O.Outputs.seen l.caller)
