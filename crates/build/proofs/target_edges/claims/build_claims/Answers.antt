use Rattle.std.proofs.Common.{◌≡◌, List, [], ◌∷◌, ◌++◌, map, string_bytes, append_assoc, sym, ap, ◌∙◌}
use Rattle.std.specs.Prelude.{◌&&◌, flat_map}
use Rattle.build.specs.edge.Data.{EdgeData}
use Rattle.build.specs.edge.Holding.{is_writable, are_writable}
use Rattle.build.specs.edge.Paths.{object_path}
use Rattle.build.specs.edge.Texts.{Path, texts}
use Rattle.build.specs.edge.View.{edge_view}
use Rattle.build.specs.Inputs.{input_view}
use Rattle.build.specs.Sources.{InputData}
use Rattle.build.specs.DeclaredTargetViews.{declared_target_views}
use Rattle.build.specs.View.{build_view, surroundings_view}
use Rattle.build.specs.target_edges.Edges.{file_edge}
use Rattle.build.proofs.HoldingFile.{compiles_asked, build_held, build_outputs, links_asked}
use Rattle.build.proofs.target_edges.claims.build_claims.Goals as goal

pub returns : goal.returns
returns c = record {
  writable =
      let s = surroundings_view c.args.context.now.surroundings.now in
      let earlier = declared_target_views c.args.context.now.earlier.now in
      let ns = c.args.context.now.libraries.now in
      let t = build_view c.args.target.now in
      let file = string_bytes c.in_ok-file.file in
      let xs = c.in_ok-inputs.inputs.items in
      let objects = c.in_ok-objects.objects.items in
      let names = c.in_ok-names.names.items in
      let made = λ (p : Path) (os : List Path). is_writable (file_edge s earlier ns t p os) in
      let objects_of = λ (p : Path) (is : List InputData). map (λ (i : InputData). object_path p i.name) is in
      let is : texts objects ≡ objects_of file (map input_view xs) = c.in_ok-objects.ensures ∙ ap (λ p. objects_of p (map input_view c.deref-3.result.now)) c.deref-2.ensures
      ∙ ap (λ is. objects_of file (map input_view is)) c.deref-3.ensures.value in
      let first = c.in_ok-compiles.ensures ∙ ap (compiles_asked s t (texts c.deref-5.result.now)) c.deref-4.ensures.value ∙ ap (λ os. compiles_asked s t (texts os) xs) c.deref-5.ensures.value in
      let second = c.in_ok-made.ensures ∙ ap (λ p. made p (texts c.deref-7.result.now)) c.deref-6.ensures ∙ ap (λ os. made file (texts os)) c.deref-7.ensures.value in
      c.all_are_held-writable.ensures
      ∙ ap (λ b. b && (c.in_ok-made.made && are_writable (map edge_view c.deref-8.result.now))) first
      ∙ ap (λ b. compiles_asked s t (texts objects) xs && (b && are_writable (map edge_view c.deref-8.result.now))) second
      ∙ ap (λ es. compiles_asked s t (texts objects) xs && (made file (texts objects) && are_writable (map edge_view es))) c.deref-8.ensures.value
      ∙ build_held s earlier ns t xs file (texts objects) (map edge_view names) c.in_ok-inputs.ensures c.in_ok-file.ensures is c.in_ok-names.ensures;
  paths =
      let s = surroundings_view c.args.context.now.surroundings.now in
      let earlier = declared_target_views c.args.context.now.earlier.now in
      let ns = c.args.context.now.libraries.now in
      let t = build_view c.args.target.now in
      let file = string_bytes c.in_ok-file.file in
      let xs = c.in_ok-inputs.inputs.items in
      let objects = c.in_ok-objects.objects.items in
      let names = c.in_ok-names.names.items in
      let made = λ (es : List EdgeData). flat_map (λ (e : EdgeData). e.outputs) es in
      let objects_of = λ (p : Path) (is : List InputData). map (λ (i : InputData). object_path p i.name) is in
      let is : texts objects ≡ objects_of file (map input_view xs) = c.in_ok-objects.ensures ∙ ap (λ p. objects_of p (map input_view c.deref-3.result.now)) c.deref-2.ensures
      ∙ ap (λ is. objects_of file (map input_view is)) c.deref-3.ensures.value in
      let asked_are : texts c.in_ok-asked.asked.items ≡ file ∷ made (map edge_view names) = c.in_ok-asked.ensures ∙ ap (λ es. file ∷ made (map edge_view es)) c.deref-9.ensures.value in
      ap (λ os. texts objects ++ os) asked_are
      ∙ sym (append_assoc (texts objects) (file ∷ []) (made (map edge_view names)))
      ∙ build_outputs s earlier ns t xs file (texts objects) (map edge_view names) c.in_ok-inputs.ensures c.in_ok-file.ensures is c.in_ok-names.ensures;
  asked =
      let t = build_view c.args.target.now in
      let file = string_bytes c.in_ok-file.file in
      let made = λ (es : List EdgeData). flat_map (λ (e : EdgeData). e.outputs) es in
      c.in_ok-asked.ensures
      ∙ ap (λ es. file ∷ made (map edge_view es)) c.deref-9.ensures.value
      ∙ ap (λ es. file ∷ made es) c.in_ok-names.ensures
      ∙ links_asked t file c.in_ok-file.ensures;
}
