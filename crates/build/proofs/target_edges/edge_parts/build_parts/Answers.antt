use Rattle.std.proofs.Common.{◌≡◌, ◌∷◌, List, map, string_bytes, ap, ◌∙◌}
use Rattle.build.specs.edge.Texts.{Path, texts}
use Rattle.build.specs.edge.Paths.{object_path}
use Rattle.build.specs.edge.View.{edge_view}
use Rattle.build.specs.Sources.{InputData, compiled_inputs, generated_paths}
use Rattle.build.specs.Inputs.{input_view}
use Rattle.build.specs.Files.{file_path}
use Rattle.build.specs.DeclaredTargetViews.{declared_target_views}
use Rattle.build.specs.View.{surroundings_view, build_view}
use Rattle.build.specs.target_edges.Words.{compile_words}
use Rattle.build.specs.target_edges.Edges.{file_edge, link_edges}
use Rattle.build.proofs.Sharing.{front_first, parts_are}
use Rattle.build.proofs.target_edges.edge_parts.build_parts.Goals as goal

pub returns : goal.returns
returns c =
    let s = surroundings_view c.args.context.now.surroundings.now in
    let earlier = declared_target_views c.args.context.now.earlier.now in
    let ns = c.args.context.now.libraries.now in
    let t = build_view c.args.target.now in
    let file : c.deref.result.now ≡ file_path t = c.deref.ensures ∙ c.in_ok-file.ensures in
    let inputs : map input_view c.deref-2.result.now ≡ compiled_inputs s.facts.depth t = ap (map input_view) c.deref-2.ensures.value ∙ c.in_ok-inputs.ensures in
    let edges = λ (p : Path) (is : List InputData). file_edge s earlier ns t p (map (λ (i : InputData). object_path p i.name) is) ∷ link_edges t in
    parts_are (texts c.in_ok-words.words.items) (compile_words s t) (texts c.in_ok-generated.generated.items) (generated_paths t) (string_bytes c.in_ok-file.file) (file_path t)
    (map input_view c.in_ok-inputs.inputs.items) (compiled_inputs s.facts.depth t) (map edge_view c.in_ok-rest.rest.items) (edges (file_path t) (compiled_inputs s.facts.depth t))
    c.in_ok-words.ensures c.in_ok-generated.ensures c.in_ok-file.ensures c.in_ok-inputs.ensures
    (c.in_ok-rest.ensures ∙ ap (λ p. edges p (map input_view c.deref-2.result.now)) file ∙ ap (edges (file_path t)) inputs)

pub invariant_of-result : goal.invariant_of-result
invariant_of-result c =
    let words = compile_words (surroundings_view c.args.context.now.surroundings.now) (build_view c.args.target.now) in
    record { first = front_first c.in_ok-words.words.items words c.in_ok-inputs.inputs.items c.in_ok-words.ensures }
