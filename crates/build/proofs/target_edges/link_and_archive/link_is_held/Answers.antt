use Rattle.std.proofs.Common.{◌≡◌, ◌++◌, List, ap, ◌∙◌}
use Rattle.std.specs.Prelude.{◌&&◌}
use Rattle.std.specs.List.{list_all}
use Rattle.build.specs.edge.Holding.{is_path, value_held}
use Rattle.build.specs.edge.Texts.{Text, texts}
use Rattle.build.specs.DeclaredTargetViews.{declared_target_views}
use Rattle.build.specs.View.{build_view, surroundings_view}
use Rattle.build.specs.target_edges.Words.{library_files, link_arguments, search_words, shared_words}
use Rattle.build.proofs.HoldingFile.{without_libraries}
use Rattle.build.proofs.target_edges.link_and_archive.link_is_held.Goals as goal

pub returns : goal.returns
returns c =
    let s = surroundings_view c.args.context.now.surroundings.now in
    let earlier = declared_target_views c.args.context.now.earlier.now in
    let ns = c.args.context.now.libraries.now in
    let t = build_view c.args.target.now in
    let file = c.args.file.now in
    let objects = texts c.args.objects.now in
    let behind = search_words earlier t.folder ns ++ link_arguments s earlier ns t in
    let asked = λ (ws : List Text). is_path file && (list_all is_path objects && (list_all is_path (library_files earlier ns)
    && (list_all value_held s.facts.compiler && list_all value_held ws))) in
    let words : texts c.deref.result.now ≡ shared_words t.kind t ++ behind =
    ap texts c.deref.ensures.value ∙ c.in_ok-push_behind.ensures ∙ ap (λ ws. ws ++ behind) (c.in_ok-push_shared.ensures ∙ ap (λ ws. texts ws ++ shared_words t.kind t) c.new-words.ensures.items) in
    c.parts_are_held.ensures ∙ ap asked words ∙ without_libraries s.facts.compiler (shared_words t.kind t) behind file objects (library_files earlier ns)
