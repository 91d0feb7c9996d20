use Rattle.std.proofs.Common.{sym, ◌∙◌}
use Rattle.build.specs.Sources.{is_foreign}
use Rattle.build.specs.View.{source_view}
use Rattle.build.proofs.ListLemmas.{list_any-map}
use Rattle.build.proofs.sources.lists_have_foreign.Goals as goal

pub returns : goal.returns
returns c = c.has_foreign_in.ensures ∙ sym (list_any-map is_foreign source_view c.args.lists.now.sources.items)
