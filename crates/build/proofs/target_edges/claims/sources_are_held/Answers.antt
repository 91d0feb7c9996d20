use Rattle.std.proofs.Common.{sym, ◌∙◌}
use Rattle.std.proofs.lemmas.List.Folds.{list_all-map}
use Rattle.build.specs.View.{source_view}
use Rattle.build.specs.target_edges.Parts.{source_held}
use Rattle.build.proofs.target_edges.claims.sources_are_held.Goals as goal

pub returns : goal.returns
returns c = c.each_is_held.ensures ∙ sym (list_all-map source_held source_view c.args.sources.now)
