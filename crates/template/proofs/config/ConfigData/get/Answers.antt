use Rattle.std.proofs.Common.{ap}
use Rattle.template.proofs.Settings.{get_is}
use Rattle.template.proofs.config.ConfigData.get.Goals as goal

pub returns : goal.returns
returns c = get_is c.args.name.now c.self.inside.entries.entries c.args.self.now.entries c.get.result (ap (λ v. v.entries) c.self.view_is) c.get.ensures.value
