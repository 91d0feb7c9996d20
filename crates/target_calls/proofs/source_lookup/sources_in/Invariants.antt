use Rattle.std.proofs.Common.{◌≡◌, [], map}
use Rattle.std.specs.Vec.Iter.{into_iter_items}
use Rattle.build.specs.DeclaredTargetViews.{declared_target_views}
use Rattle.build.specs.View.{source_view}
use Rattle.sources.specs.SourcesView.{named_view}
use Rattle.arguments.specs.Each.{each_behind}
use Rattle.target_calls.specs.Sources.{source_in}
use Rattle.target_calls.proofs.source_lookup.sources_in.Given as goal

-- the sources so far and the names that are left decide
abbrev pub invariant-loop-one : goal.invariant-loop-one
invariant-loop-one l =
    each_behind (source_in (declared_target_views l.earlier)) (map source_view l.sources.items) (map named_view (into_iter_items l.one-iterator))
    ≡ each_behind (source_in (declared_target_views l.earlier)) [] (map named_view l.fn.named.items)
