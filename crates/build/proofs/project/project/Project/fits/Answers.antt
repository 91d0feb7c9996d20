use Rattle.std.proofs.Common.{Bool, sym, ap, ◌∙◌}
use Rattle.std.specs.Prelude.{◌&&◌}
use Rattle.std.specs.List.{list_all}
use Rattle.build.specs.edge.Texts.{texts, holds}
use Rattle.build.specs.DeclaredTargetViews.{declared_target_views}
use Rattle.build.specs.View.{surroundings_view, target_view}
use Rattle.build.specs.project.World.{WorldData, is_made_in, made_in, made_of}
use Rattle.build.specs.project.NotesView.{notes_view}
use Rattle.build.specs.project.Whole.{targets_in}
use Rattle.build.specs.project.Adding.{sources_of, is_made_source}
use Rattle.build.proofs.Answering.{made_is, sources-same}
use Rattle.build.proofs.project.project.Project.fits.Goals as goal

pub returns-then-fits : goal.returns-then-fits
returns-then-fits c =
    let s = surroundings_view c.self.inside.surroundings in
    let ls = declared_target_views c.self.inside.linked.items in
    let outputs = texts c.self.inside.outputs.items in
    let kept = texts c.self.inside.taken.keys in
    let t = target_view c.args.target.now in
    let w = c.args.self.now in
    c.has_made_sources.ensures
    ∙ sources-same (is_made_in kept) (λ p. holds p (made_of s (targets_in ls) outputs)) (made_is s ls outputs (notes_view c.self.inside.notes).present kept c.self.invariant) (sources_of t)
    ∙ ap (λ (x : WorldData). list_all (is_made_source (λ p. holds p (made_in x))) (sources_of t)) c.self.view_is
    ∙ ap (λ (b : Bool). b && list_all (is_made_source (λ p. holds p (made_in w))) (sources_of t)) (sym c.if-fits.true ∙ c.in_ok-fits.ensures)
