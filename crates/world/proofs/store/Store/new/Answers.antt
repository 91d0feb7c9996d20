use Rattle.std.proofs.Common.{refl, ap, ◌∙◌}
use Rattle.machine_file.specs.View.{machine_in}
use Rattle.build.specs.project.World.{new_world}
use Rattle.world.specs.AskedView.{all_asked_in}
use Rattle.world.specs.SettingsView.{settings_view}
use Rattle.world.proofs.Setting.{world_first}
use Rattle.world.proofs.store.Store.new.Goals as goal

pub returns-clause-world : goal.returns-clause-world
returns-clause-world c =
    world_first _ (settings_view c.args.settings) (machine_in c.args.machine.value) c.in_ok-from_str.ensures.ok c.new-2.ensures.bytes refl refl c.new-3.ensures c.new-4.ensures.items refl refl c.new-5.ensures.items refl
    (c.in_ok-project.ensures ∙ ap new_world c.in_ok-unnamed_facts.ensures) c.new-6.ensures c.new-7.ensures (ap all_asked_in c.new-8.ensures.items)
