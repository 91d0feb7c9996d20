use Rattle.std.proofs.Common.{sym, ◌∙◌}
use Rattle.build.specs.Data.{ListsData}
use Rattle.build.specs.View.{lists_view}
use Rattle.build.specs.target_edges.Words.{texts_of}
use Rattle.build.proofs.HoldingWords.{brought_held}
use Rattle.build.proofs.target_edges.word_checks.brought_are_held.Goals as goal

pub returns : goal.returns
returns c = c.each_is_held.ensures ∙ sym (brought_held (λ (l : ListsData). texts_of c.args.what l) (λ l. lists_view l.value) c.args.target.now.dependencies.items)
