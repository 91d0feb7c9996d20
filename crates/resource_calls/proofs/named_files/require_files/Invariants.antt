use Rattle.std.proofs.Common.{map, drop}
use Rattle.sources.specs.SourcesView.{named_view}
use Rattle.world.specs.Answering.{Leads}
use Rattle.world.specs.Caller.{state_of}
use Rattle.resource_calls.specs.NamedFiles.{files_required}
use Rattle.resource_calls.proofs.named_files.require_files.Given as goal

-- what was done, and what is left
abbrev pub invariant-loop-one : goal.invariant-loop-one
invariant-loop-one g l =
    Leads (files_required (map named_view l.named)) (state_of g.T.Tree.seen g.O.Outputs.seen l.fn.caller)
    (files_required (map named_view (drop l.one-index l.named))) (state_of g.T.Tree.seen g.O.Outputs.seen l.caller)
