use Rattle.std.proofs.Common.{ap, ◌∙◌, arith}
use Rattle.std.proofs.lemmas.Grind.{common_steps}
use Rattle.world.specs.Settings.{SettingsData}
use Rattle.target_calls.proofs.custom_installs.way_of.Goals as goal

pub returns : goal.returns
returns c =
    let root = c.build_root-build_root.ensures.value ∙ ap (λ (s : SettingsData). s.build_root) c.settings.ensures in
    grind (arith, common_steps, root)
