use Rattle.std.proofs.Common.{string_bytes, ap, ◌∙◌}
use Rattle.build.specs.edge.Texts.{texts}
use Rattle.build.proofs.TextLists.{texts-insert_key}
use Rattle.build.specs.DeclaredTargetViews.{declared_target_views}
use Rattle.build.specs.View.{surroundings_view}
use Rattle.build.specs.project.World.{WorldData}
use Rattle.build.specs.project.View.{world_of}
use Rattle.build.specs.project.NotesView.{notes_view}
use Rattle.build.specs.project.Adding.{with_absent}
use Rattle.build.proofs.project.project.Project.add_absent.Goals as goal

pub returns-clause-ok : goal.returns-clause-ok
returns-clause-ok c =
    let ks = c.self.inside.notes.absent.keys in
    let old = world_of (surroundings_view c.self.inside.surroundings) (declared_target_views c.self.inside.linked.items) (texts c.self.inside.outputs.items) (notes_view c.self.inside.notes) in
    ap (λ x. record old { absent = x }) (ap texts c.in_ok-insert.ensures.keys ∙ texts-insert_key ks c.args.path) ∙ ap (λ (x : WorldData). with_absent x (string_bytes c.args.path)) c.self.view_is
