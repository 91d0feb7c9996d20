use Rattle.std.proofs.Common.{sym, subst}
use Rattle.build.specs.edge.Texts.{texts}
use Rattle.build.specs.DeclaredTargetViews.{declared_target_views}
use Rattle.build.specs.View.{surroundings_view}
use Rattle.build.specs.project.Laws.{Reaches}
use Rattle.build.specs.project.World.{WorldData, edges_in}
use Rattle.build.specs.project.NotesView.{notes_view}
use Rattle.build.proofs.NoCycle.{no_cycle_lem}
use Rattle.build.proofs.project.project.no_circle.Goals as goal

pub returns : goal.returns
returns c = λ i r.
    no_cycle_lem (surroundings_view c.project.inside.surroundings) (declared_target_views c.project.inside.linked.items) (texts c.project.inside.outputs.items) (notes_view c.project.inside.notes).present
    (texts c.project.inside.taken.keys) c.project.invariant i (subst (λ (x : WorldData). Reaches (edges_in x) i i) (sym c.project.view_is) r)
