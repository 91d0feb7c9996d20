use Rattle.std.proofs.Common.{map, drop, string_bytes}
use Rattle.world.specs.Answering.{Leads}
use Rattle.world.specs.Caller.{state_of}
use Rattle.target_calls.specs.CustomInstalls.{all_noted}
use Rattle.target_calls.specs.CustomInstallsView.{way_view}
use Rattle.target_calls.proofs.custom_installs.note_all.Given as goal

-- what was done, and what is left
abbrev pub invariant-loop-name : goal.invariant-loop-name
invariant-loop-name g l =
    Leads (all_noted (way_view l.way) (map string_bytes l.names)) (state_of g.T.Tree.seen g.O.Outputs.seen l.fn.caller)
    (all_noted (way_view l.way) (map string_bytes (drop l.name-index l.names))) (state_of g.T.Tree.seen g.O.Outputs.seen l.caller)
