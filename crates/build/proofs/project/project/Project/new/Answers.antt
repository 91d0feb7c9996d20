use Rattle.std.proofs.Common.{map, ap, sym}
use Rattle.build.specs.edge.Texts.{texts}
use Rattle.build.specs.DeclaredTargetViews.{declared_target_views}
use Rattle.build.specs.View.{facts_view, surroundings_view}
use Rattle.build.specs.project.View.{answer_view, install_view, test_view}
use Rattle.build.specs.project.Whole.{targets_in}
use Rattle.build.proofs.Placing.{whole_start, world_start}
use Rattle.build.proofs.project.project.Project.new.Goals as goal

pub returns : goal.returns
returns c =
    sym (world_start (facts_view c.args.facts) (texts c.new.result.items) (texts c.new-2.result.items) (targets_in (declared_target_views c.new-3.result.items))
    (texts c.new-4.result.items) (texts c.new_set.result.keys) (texts c.new_set-2.result.keys) (map answer_view c.new-5.result.items)
    (map install_view c.new-6.result.items) (map test_view c.new-7.result.items)
    (ap texts c.new.ensures.items) (ap texts c.new-2.ensures.items) (ap (λ ls. targets_in (declared_target_views ls)) c.new-3.ensures.items)
    (ap texts c.new-4.ensures.items) (ap texts c.new_set.ensures.keys) (ap texts c.new_set-2.ensures.keys) (ap (map answer_view) c.new-5.ensures.items)
    (ap (map install_view) c.new-6.ensures.items) (ap (map test_view) c.new-7.ensures.items))

pub invariant_of-result : goal.invariant_of-result
invariant_of-result c =
    let s = surroundings_view (record { facts = c.args.facts; arguments = c.new.result; link_arguments = c.new-2.result }) in
    whole_start s (declared_target_views c.new-3.result.items) (texts c.new-4.result.items) (texts c.new_set.result.keys) (texts c.in_ok-taken.taken.keys)
    (ap declared_target_views c.new-3.ensures.items) (ap texts c.new-4.ensures.items) c.in_ok-taken.ensures
