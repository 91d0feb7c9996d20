use Rattle.std.proofs.Common.{sym, ◌∙◌}
use Rattle.std.proofs.lemmas.List.Folds.{list_all-map}
use Rattle.build.specs.edge.Holding.{is_writable}
use Rattle.build.specs.edge.View.{edge_view}
use Rattle.build.proofs.edge.holdable_texts.are_writable.Goals as goal

pub returns : goal.returns
returns c = c.all_writable.ensures ∙ sym (list_all-map is_writable edge_view c.args.edges.now)
