use Rattle.std.proofs.Common.{sym, ap, ◌∙◌}
use Rattle.values.specs.Data.{keys_in}
use Rattle.values.proofs.EntriesLemmas.{keys_in-entries_of}
use Rattle.values.proofs.value.Dictionary.keys.Goals as goal

pub returns : goal.returns
returns c =
    c.as_slice.ensures.keys ∙ sym (keys_in-entries_of c.self.inside.keys c.self.inside.values.items c.self.invariant.pairs)
    ∙ ap keys_in c.self.view_is
