use Rattle.std.proofs.Common.{rules, tests, ◌∙◌}
use Rattle.std.proofs.lemmas.Iterator.{YieldsList-from_slice}
use Rattle.std.proofs.lemmas.Iterator.Search.{any_from_yields_List}
use Rattle.support.proofs.BuildFolders.{list_any-map}
use Rattle.support.specs.paths.BuildFolders.{is_upward}
use Rattle.support.proofs.paths.folders.has_upward.Goals as goal

pub returns : goal.returns
returns c =
    any_from_yields_List (λ part. is_upward part.now) _ _ _ c.any.ensures.ran (YieldsList-from_slice c.args.parts.now (cc)) (λ x b q k. search (rules, tests))
    ∙ list_any-map is_upward (λ part. part.now) c.args.parts.now
