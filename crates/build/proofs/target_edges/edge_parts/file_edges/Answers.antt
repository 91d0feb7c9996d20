use Rattle.std.proofs.Common.{[], ◌∷◌, ◌++◌, map, ap, ◌∙◌}
use Rattle.build.specs.edge.Paths.{object_path}
use Rattle.build.specs.edge.View.{edge_view}
use Rattle.build.specs.Inputs.{input_view}
use Rattle.build.specs.Sources.{InputData}
use Rattle.build.specs.DeclaredTargetViews.{declared_target_views}
use Rattle.build.specs.View.{surroundings_view, build_view}
use Rattle.build.specs.target_edges.Edges.{file_edge}
use Rattle.build.proofs.target_edges.edge_parts.file_edges.Goals as goal

pub returns : goal.returns
returns c =
    let file = c.args.file.now in
    let made = file_edge (surroundings_view c.args.context.now.surroundings.now) (declared_target_views c.args.context.now.earlier.now) c.args.context.now.libraries.now (build_view c.args.target.now) file in
    let objects = map (λ (i : InputData). object_path file i.name) (map input_view c.args.inputs.now) in
    let names = c.in_ok-names.names.items in
    let one = c.in_ok-file_edge.field-0 in
    ap (map edge_view) (c.in_ok-append.ensures.items ∙ ap (λ es. es ++ names) (c.in_ok-push.ensures.items ∙ ap (λ es. es ++ one ∷ []) c.new-edges.ensures.items))
    ∙ ap (λ e. e ∷ map edge_view names) (c.in_ok-file_edge.ensures ∙ ap made c.in_ok-objects.ensures)
    ∙ ap (λ es. made objects ∷ es) c.in_ok-names.ensures
