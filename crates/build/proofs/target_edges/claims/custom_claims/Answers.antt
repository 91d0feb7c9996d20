use Rattle.std.proofs.Common.{ap, sym, ◌++◌, ◌∙◌, append-nil}
use Rattle.build.specs.edge.Texts.{texts}
use Rattle.build.specs.Files.{output_paths}
use Rattle.build.specs.View.{surroundings_view, custom_view}
use Rattle.build.specs.target_edges.Parts.{custom_held}
use Rattle.build.proofs.HoldingCustom.{custom_are_held}
use Rattle.build.proofs.target_edges.claims.custom_claims.Goals as goal

pub returns : goal.returns
returns c = record {
  writable =
      let t = custom_view c.args.target.now in
      let depth = (surroundings_view c.args.context.now.surroundings.now).facts.depth in
      c.custom_is_held-writable.ensures
      ∙ ap (λ os. custom_held t (texts os)) c.deref.ensures.value
      ∙ ap (custom_held t) c.in_ok-asked.ensures
      ∙ sym (custom_are_held depth t);
  paths =
      let t = custom_view c.args.target.now in
      ap (λ os. texts os ++ texts c.in_ok-asked.asked.items) c.new.ensures.items ∙ c.in_ok-asked.ensures ∙ sym (append-nil (output_paths t));
  asked = c.in_ok-asked.ensures;
}
