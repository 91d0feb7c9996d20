use Rattle.std.proofs.Common.{◌≡◌, [], map, drop}
use Rattle.sources.specs.SourcesView.{named_view}
use Rattle.build.specs.DeclaredTargetViews.{declared_target_views}
use Rattle.resource_calls.specs.JoinedLists.{sources_behind}
use Rattle.resource_calls.proofs.joined_lists.sources_within.Given as goal

-- the sources so far and the names that are left decide
abbrev pub invariant-loop-one : goal.invariant-loop-one
invariant-loop-one l =
    sources_behind (declared_target_views l.earlier) l.sources (map named_view (drop l.one-index l.named))
    ≡ sources_behind (declared_target_views l.earlier) [] (map named_view l.named)
