use Rattle.std.proofs.Common.{sym, ap, ◌∙◌}
use Rattle.std.specs.Prelude.{slice_get}
use Rattle.values.specs.Data.{keys_in}
use Rattle.values.proofs.EntriesLemmas.{key_there, key_read}
use Rattle.values.proofs.value.Dictionary.key.Goals as goal

pub unreachable-requires : goal.unreachable-requires
unreachable-requires c =
    key_there c.self.inside.keys c.self.inside.values.items c.args.self.now c.args.index c.self.invariant.pairs c.self.view_is c.requires (sym c.in-None.ensures.key)

pub returns : goal.returns
returns c =
    ap (λ es. slice_get (keys_in es) c.args.index) (sym c.self.view_is)
    ∙ key_read c.self.inside.keys c.self.inside.values.items c.args.index c.in-Some.key.now c.self.invariant.pairs (sym c.in-Some.ensures.key)
