use Rattle.std.proofs.Common.{◌∙◌, ap}
use Rattle.support.specs.Maps.{set_value_at}
use Rattle.support.proofs.Entries.{none_to_set}
use Rattle.support.proofs.tables.map.SipMap.set_at.Goals as goal

pub returns-in_default : goal.returns-in_default
returns-in_default g c = record {
  entries =
      none_to_set c.self.inside.map.entries c.args.index c.args.value (λ lt. let e = c.in_default.ensures.found.1 lt in absurd cc)
      ∙ ap (λ m. set_value_at m.entries c.args.index c.args.value) c.self.view_is;
}
