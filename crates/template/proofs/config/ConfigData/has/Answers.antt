use Rattle.std.proofs.Common.{ap}
use Rattle.template.proofs.Settings.{has_is}
use Rattle.template.proofs.config.ConfigData.has.Goals as goal

pub returns : goal.returns
returns c = has_is c.args.name.now c.self.inside.entries.entries c.args.self.now.entries c.contains_key.result (ap (λ v. v.entries) c.self.view_is) c.contains_key.ensures
