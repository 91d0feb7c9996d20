use Rattle.std.proofs.Common.{◌≡◌, List, length, take, get_or, nat_lt, sym, ap, ◌∙◌}
use Rattle.std.proofs.lemmas.Result.{IfOk-weaker}
use Rattle.build.specs.edge.Texts.{texts}
use Rattle.build.specs.Libraries.{declared_target, linked_of}
use Rattle.build.specs.DeclaredTargetViews.{declared_target_views}
use Rattle.build.specs.View.{surroundings_view, target_view}
use Rattle.build.specs.declared.declared_target.DeclaredTarget.{DeclaredTarget}
use Rattle.build.specs.target_edges.Edges.{edges_of}
use Rattle.build.specs.target_edges.PartsView.{parts_edges}
use Rattle.build.specs.project.World.{WorldData}
use Rattle.build.specs.project.NotesView.{notes_view}
use Rattle.build.specs.project.Adding.{edges_at}
use Rattle.build.proofs.Reading.{edges_found, edges_missed, front_back, whole_back}
use Rattle.build.proofs.project.project.parts.Goals as goal

pub parts_behind-requires : goal.parts_behind-requires
parts_behind-requires c =
    let xs = c.project.inside.linked.items in
    let earlier = take c.args.target c.deref-in-Some.result.now in
    front_back xs earlier c.args.target (ap (take c.args.target) c.deref-in-Some.ensures.value)
    (whole_back (surroundings_view c.project.inside.surroundings) xs (texts c.project.inside.outputs.items) (notes_view c.project.inside.notes).present (texts c.project.inside.taken.keys) c.project.invariant)

pub returns-in-Some : goal.returns-in-Some
returns-in-Some c =
    let w = c.args.project.now in
    let n = c.args.target in
    let s = surroundings_view c.project.inside.surroundings in
    let xs = c.project.inside.linked.items in
    let one = c.in-Some.one.now in
    let earlier = take n c.deref-in-Some.result.now in
    let is = edges_found w s xs earlier n one
    (ap (λ (x : WorldData). x.surroundings) c.project.view_is)
    (c.project.invariant.libraries ∙ ap (λ (x : WorldData). linked_of x.targets) c.project.view_is)
    (ap (take n) c.deref-in-Some.ensures.value)
    (c.in-Some.ensures.lookup.0 ∙ ap (λ (l : List DeclaredTarget). nat_lt n (length l)) c.deref.ensures.value)
    (c.in-Some.ensures.lookup.1 ∙ ap (λ (l : List DeclaredTarget). get_or l n one) c.deref.ensures.value) in
    IfOk-weaker c.parts_behind.result (λ p. parts_edges p ≡ edges_of s (declared_target_views earlier) (declared_target (declared_target_views earlier) (target_view one.target))) (λ p. parts_edges p ≡ edges_at w n) (λ p e. e ∙ is) c.parts_behind.ensures

pub returns-in-None : goal.returns-in-None
returns-in-None c =
    let all : declared_target_views c.project.inside.linked.items ≡ linked_of c.args.project.now.targets =
    c.project.invariant.libraries ∙ ap (λ (x : WorldData). linked_of x.targets) c.project.view_is in
    c.no_parts.ensures
    ∙ sym (edges_missed c.args.project.now c.project.inside.linked.items c.args.target all
    (c.in-None.ensures.lookup.0 ∙ ap (λ (l : List DeclaredTarget). nat_lt c.args.target (length l)) c.deref.ensures.value))
