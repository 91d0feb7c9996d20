use Rattle.std.proofs.Common.{rules, tests, not, lit<}
use Rattle.std.proofs.lemmas.Iterator.Consumers.{YieldsList-at, YieldsList-from_filter, map_from_collect}
use Rattle.std.proofs.lemmas.Iterator.Splits.{YieldsList-from_str_split}
use Rattle.support.specs.paths.BuildFolders.{is_idle}
use Rattle.support.proofs.paths.folders.leading_parts.Goals as goal

pub returns : goal.returns
returns c = map_from_collect _ c.collect.ensures.ran
    (YieldsList-from_filter _ (λ piece. not (is_idle piece))
    (YieldsList-at c.filter.ensures.source (YieldsList-from_str_split 47 c.args.path.now (lit< tt) c.split.ensures.text c.split.ensures.has_more c.split.ensures.pattern))
    c.filter.ensures.closure (λ x b q k. search (rules, tests)))
