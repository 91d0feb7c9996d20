use Rattle.std.proofs.Common.{map}
use Rattle.std.specs.Vec.Iter.{into_iter_items}
use Rattle.build.specs.project.View.{install_view}
use Rattle.world.specs.Answering.{Leads}
use Rattle.world.specs.Caller.{state_of}
use Rattle.resource_calls.specs.Installs.{all_installed}
use Rattle.resource_calls.proofs.installs.install_all.Given as goal

-- what was done, and what is left
abbrev pub invariant-loop-install : goal.invariant-loop-install
invariant-loop-install g l =
    Leads (all_installed (map install_view l.fn.installs.items)) (state_of g.T.Tree.seen g.O.Outputs.seen l.fn.caller)
    (all_installed (map install_view (into_iter_items l.install-iterator))) (state_of g.T.Tree.seen g.O.Outputs.seen l.caller)
