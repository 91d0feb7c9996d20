use Rattle.std.proofs.Common.{ap, ◌∙◌}
use Rattle.world.specs.Store.{world_of}
use Rattle.world.proofs.Setting.{variables_grown, world_as}
use Rattle.world.proofs.store.Store.flatten.Goals as goal

pub returns-clause-world : goal.returns-clause-world
returns-clause-world c =
    world_as _ c.flatten.new.names c.self.inside.slots.items (variables_grown c.self.inside.slots.items c.flatten.ensures.names c.self.invariant) ∙ ap world_of c.self.view_is
