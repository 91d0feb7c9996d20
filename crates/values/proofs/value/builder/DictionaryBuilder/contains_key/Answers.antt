use Rattle.std.proofs.Common.{is_some, ap, ◌∙◌}
use Rattle.values.specs.Data.{find}
use Rattle.values.proofs.EntriesLemmas.{has_key}
use Rattle.values.proofs.value.builder.DictionaryBuilder.contains_key.Goals as goal

pub returns : goal.returns
returns c =
    c.is_some.ensures
    ∙ has_key c.args.key.now c.self.inside.keys c.self.inside.values.items c.get_index_of.result c.self.invariant.pairs c.get_index_of.ensures.index
    ∙ ap (λ es. is_some (find c.args.key.now es)) c.self.view_is
