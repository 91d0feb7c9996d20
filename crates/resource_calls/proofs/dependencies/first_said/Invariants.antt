use Rattle.std.proofs.Common.{map, drop}
use Rattle.arguments.specs.Arguments.{arguments_data}
use Rattle.world.specs.Answering.{Leads}
use Rattle.world.specs.Caller.{state_of}
use Rattle.resource_calls.specs.Dependency.{first_said}
use Rattle.resource_calls.proofs.dependencies.first_said.Given as goal

-- what was done, and what is left
abbrev pub invariant-loop-name : goal.invariant-loop-name
invariant-loop-name g l =
    Leads (first_said (arguments_data l.arguments) (map (λ n. n.now) l.names)) (state_of g.T.Tree.seen g.O.Outputs.seen l.fn.caller)
    (first_said (arguments_data l.arguments) (map (λ n. n.now) (drop l.name-index l.names))) (state_of g.T.Tree.seen g.O.Outputs.seen l.caller)
