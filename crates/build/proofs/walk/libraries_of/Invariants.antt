use Rattle.std.specs.Prelude.{flat_map}
use Rattle.build.specs.Libraries.{with_its_own}
use Rattle.build.specs.DeclaredTargetViews.{declared_target_views}
use Rattle.build.specs.Marks.{AreMarks}
use Rattle.build.specs.Sources.{list_with_dependencies}
use Rattle.build.specs.View.{build_view}
use Rattle.build.proofs.Walking.{Walks, weights}
use Rattle.build.proofs.walk.libraries_of.Given as goal

abbrev pub invariant-loop-step : goal.invariant-loop-step
invariant-loop-step l = record {
  walks : Walks (declared_target_views l.earlier) (flat_map (with_its_own (declared_target_views l.earlier)) (list_with_dependencies (λ k. k.link_with) (build_view l.target))) l.steps.items l.kept.items;
  marks : AreMarks l.marks.items l.kept.items;
}

abbrev pub decreases-loop-step : goal.decreases-loop-step
decreases-loop-step l = weights (declared_target_views l.earlier) l.steps.items
