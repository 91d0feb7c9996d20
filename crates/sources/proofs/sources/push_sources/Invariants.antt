use Rattle.std.proofs.Common.{◌≡◌, map, drop}
use Rattle.arguments.specs.declared.rule.Rule.TheVariants as rules
use Rattle.values.specs.View.{data_of}
use Rattle.arguments.specs.Each.{each_said}
use Rattle.sources.specs.Sources.{source_of}
use Rattle.sources.specs.SourcesView.{named_views}
use Rattle.sources.specs.Unnamed.{named_by}
use Rattle.sources.proofs.sources.push_sources.Given as goal

-- the sources so far and the values that are left decide
abbrev pub invariant-loop-value : goal.invariant-loop-value
invariant-loop-value l =
    each_said (named_by rules.NamesFile (source_of l.source_root l.folder)) (named_views l.sources)
    (map (λ v. data_of v.now) (drop l.value-index l.values))
    ≡ each_said (named_by rules.NamesFile (source_of l.source_root l.folder)) (named_views l.fn.sources)
    (map (λ v. data_of v.now) l.values)
