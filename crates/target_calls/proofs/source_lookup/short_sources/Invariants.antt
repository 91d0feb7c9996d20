use Rattle.std.proofs.Common.{◌≡◌, [], map}
use Rattle.std.specs.Vec.Iter.{into_iter_items}
use Rattle.build.specs.DeclaredTargetViews.{declared_target_views}
use Rattle.build.specs.View.{source_view}
use Rattle.sources.specs.SourcesView.{named_view}
use Rattle.target_calls.specs.LongCommands.{no_lists, sources_behind}
use Rattle.target_calls.specs.LongCommandsView.{had_view}
use Rattle.target_calls.proofs.source_lookup.short_sources.Given as goal

-- the sources so far, the lists that they had, and the names that are left decide
abbrev pub invariant-loop-one : goal.invariant-loop-one
invariant-loop-one l =
    sources_behind (declared_target_views l.earlier) (map source_view l.sources.items) (had_view l.had) (map named_view (into_iter_items l.one-iterator))
    ≡ sources_behind (declared_target_views l.earlier) [] no_lists (map named_view l.fn.named.items)
