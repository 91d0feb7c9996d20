use Rattle.std.proofs.Common.{◌∙◌, Some, None}
use Rattle.options.specs.FillIns.{state_in}
use Rattle.options.proofs.Lookups.{part_looked_up}
use Rattle.options.proofs.fill_in.state_at.Goals as goal

pub returns-in-Some : goal.returns-in-Some
returns-in-Some c = c.state_in.ensures
    ∙ part_looked_up state_in c.args.name.now c.args.settings.now.entries (Some c.in-Some.setting.now) c.in-Some.ensures.value

pub returns-in-None : goal.returns-in-None
returns-in-None c = part_looked_up state_in c.args.name.now c.args.settings.now.entries None c.in-None.ensures.value
