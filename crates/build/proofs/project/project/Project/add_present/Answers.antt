use Rattle.std.proofs.Common.{List, string_bytes, sym, ap, ◌∙◌, subst}
use Rattle.build.specs.edge.Texts.{Path, texts}
use Rattle.build.proofs.TextLists.{texts-insert_key}
use Rattle.build.specs.DeclaredTargetViews.{declared_target_views}
use Rattle.build.specs.View.{surroundings_view}
use Rattle.build.specs.project.World.{WorldData}
use Rattle.build.specs.project.View.{world_of}
use Rattle.build.specs.project.NotesView.{notes_view}
use Rattle.build.specs.project.Whole.{IsWhole}
use Rattle.build.specs.project.Adding.{with_present}
use Rattle.build.proofs.Placing.{whole_with_put}
use Rattle.build.proofs.project.project.Project.add_present.Goals as goal

pub invariant_of-self-2 : goal.invariant_of-self-2
invariant_of-self-2 c =
    let s = surroundings_view c.self.inside.surroundings in
    let ls = declared_target_views c.self.inside.linked.items in
    let outputs = texts c.self.inside.outputs.items in
    let kept = texts c.self.inside.taken.keys in
    let ks = c.self.inside.notes.present.keys in
    subst (λ (x : List Path). IsWhole s ls outputs x kept) (sym (ap texts c.in_ok-insert.ensures.keys ∙ texts-insert_key ks c.args.path))
    (whole_with_put s ls outputs (texts ks) kept (string_bytes c.args.path) c.self.invariant)

pub returns-clause-ok : goal.returns-clause-ok
returns-clause-ok c =
    let ks = c.self.inside.notes.present.keys in
    let old = world_of (surroundings_view c.self.inside.surroundings) (declared_target_views c.self.inside.linked.items) (texts c.self.inside.outputs.items) (notes_view c.self.inside.notes) in
    ap (λ x. record old { present = x }) (ap texts c.in_ok-insert.ensures.keys ∙ texts-insert_key ks c.args.path) ∙ ap (λ (x : WorldData). with_present x (string_bytes c.args.path)) c.self.view_is
