use Rattle.std.proofs.Common.{map, ap, subst, ◌∙◌}
use Rattle.arguments.specs.Stops.{Says}
use Rattle.support.specs.paths.Folder.{strings_of}
use Rattle.world.specs.Here.{HereData}
use Rattle.world.proofs.Answering.{carries_as, carries_none, carries_read}
use Rattle.world.proofs.Settling.{carries_says}
use Rattle.target_calls.specs.Files.{named_paths, paths_named}
use Rattle.target_calls.proofs.tree.named_paths.Goals as goal

pub returns-in_err-texts : goal.returns-in_err-texts
returns-in_err-texts g c = carries_none c.from_residual.ensures.1

pub returns : goal.returns
unfolding named_paths
returns g c =
    let texts = ap (map (λ t. t.now)) c.deref.ensures.value ∙ c.in_ok-texts.ensures in
    let said = subst (λ (h : HereData). Says strings_of (paths_named h c.args.wanted (map (λ t. t.now) c.deref.result.now)) c.paths_named.result)
    c.here.ensures c.paths_named.ensures in
    carries_as (ap (named_paths c.args.wanted) texts) (carries_read (carries_says {view = strings_of} _ c.paths_named.result said c.settle.ensures))
