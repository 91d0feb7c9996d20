use Rattle.std.proofs.Common.{ap, ◌∙◌, ◌+◌}
use Rattle.ports.specs.Outputs.{OutputState}
use Rattle.world.specs.Gives.{failures_after}
use Rattle.world.specs.Plan.{carry}
use Rattle.world.specs.Store.{world_of}
use Rattle.interp.specs.Evaluation.{definitions}
use Rattle.meson.proofs.Asked.{asks_after, fails_after}
use Rattle.meson.proofs.question_run.ask_in.Goals as goal

pub returns-clause-asks : goal.returns-clause-asks
returns-clause-asks g c = λ files h.
    asks_after (carry files definitions (world_of c.args.store.now)) c.definitions-ended.result (world_of c.definitions-ended.new.store) c.failures.result _ _ c.fault_after.result
    (c.definitions-ended.ensures.gives files h).gives c.fault_after.ensures

pub returns-clause-device : goal.returns-clause-device
returns-clause-device g c =
    let failed = c.definitions-ended.ensures.device in
    fails_after c.definitions-ended.result c.failures.result c.fault_after.result (g.T.Tree.seen c.args.tree.now).failures (g.T.Tree.seen c.definitions-ended.new.tree).failures failed.of_tree
    (ap (λ n. (g.T.Tree.seen c.definitions-ended.new.tree).failures + n) c.failures.ensures ∙ failed.sum
    ∙ ap (λ n. failures_after ((g.T.Tree.seen c.args.tree.now).failures + n) c.definitions-ended.result) (ap (λ (o : OutputState). o.failures) c.new-nothing.ensures))
    c.fault_after.ensures
