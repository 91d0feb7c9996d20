use Rattle.std.proofs.Common.{◌≡◌, ◌++◌, Bool, true, false, ap, sym, ◌∙◌}
use Rattle.std.specs.Prelude.{if◌then◌else◌}
use Rattle.std.proofs.lemmas.Result.{IfOk-weaker}
use Rattle.build.specs.edge.Holding.{is_writable}
use Rattle.build.specs.edge.Texts.{texts}
use Rattle.build.specs.Files.{is_static}
use Rattle.build.specs.DeclaredTargetViews.{declared_target_views}
use Rattle.build.specs.View.{build_view, surroundings_view}
use Rattle.build.specs.target_edges.Edges.{archive_edge, link_edge, file_edge}
use Rattle.build.specs.target_edges.Parts.{archive_held, link_held}
use Rattle.build.specs.target_edges.Words.{library_files, library_words, link_words, shared_words}
use Rattle.build.proofs.HoldingFile.{archive_is, link_is}
use Rattle.build.proofs.target_edges.link_and_archive.file_is_held.Goals as goal

pub returns-then-is_static : goal.returns-then-is_static
returns-then-is_static c =
    let s = surroundings_view c.args.context.now.surroundings.now in
    let earlier = declared_target_views c.args.context.now.earlier.now in
    let ns = c.args.context.now.libraries.now in
    let t = build_view c.args.target.now in
    let file = c.args.file.now in
    let objects = texts c.args.objects.now in
    let archive = archive_edge s.facts.archiver file objects in
    let link = link_edge (link_words s earlier ns t file objects) file objects (library_files earlier ns) in
    let static : is_static t.kind ≡ true = sym c.is_static.ensures ∙ c.if-is_static.true in
    c.archive_is_held.ensures ∙ ap (λ ws. archive_held (texts ws) file objects) c.deref.ensures.value ∙ archive_is s.facts.archiver file objects
    ∙ ap (λ (b : Bool). is_writable (if b then archive else link)) (sym static)

pub returns-else-is_static : goal.returns-else-is_static
returns-else-is_static c =
    let s = surroundings_view c.args.context.now.surroundings.now in
    let earlier = declared_target_views c.args.context.now.earlier.now in
    let ns = c.args.context.now.libraries.now in
    let t = build_view c.args.target.now in
    let file = c.args.file.now in
    let objects = texts c.args.objects.now in
    let archive = archive_edge s.facts.archiver file objects in
    let link = link_edge (link_words s earlier ns t file objects) file objects (library_files earlier ns) in
    let linked : is_static t.kind ≡ false = sym c.is_static.ensures ∙ c.if-is_static.false in
    IfOk-weaker c.link_is_held.result (λ held. held ≡ link_held s.facts.compiler (shared_words t.kind t ++ library_words s earlier ns t) file objects (library_files earlier ns))
    (λ held. held ≡ is_writable (file_edge s earlier ns t file objects))
    (λ held h. h ∙ link_is s earlier ns t file objects ∙ ap (λ (b : Bool). is_writable (if b then archive else link)) (sym linked))
    c.link_is_held.ensures
