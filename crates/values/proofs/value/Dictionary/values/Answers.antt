use Rattle.std.proofs.Common.{sym, ap, ◌∙◌}
use Rattle.values.specs.Data.{entry_values}
use Rattle.values.specs.View.{items_of}
use Rattle.values.proofs.EntriesLemmas.{entry_values-entries_of}
use Rattle.values.proofs.value.Dictionary.values.Goals as goal

pub returns-clause-values : goal.returns-clause-values
returns-clause-values c = ap items_of c.deref.ensures.value ∙ sym (entry_values-entries_of c.self.inside.keys c.self.inside.values.items c.self.invariant.pairs) ∙ ap entry_values c.self.view_is
