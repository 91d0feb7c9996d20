use Rattle.std.proofs.Common.{◌<◌, None, length, get_or, [], ap, subst, sym, ◌∙◌}
use Rattle.code.proofs.NameLists.{name_at}
use Rattle.world.specs.Store.{world_after_change, world_of}
use Rattle.world.specs.World.{with_variable}
use Rattle.world.proofs.store.Store.unset.Goals as goal

pub returns-in-Some-clause-world : goal.returns-in-Some-clause-world
returns-in-Some-clause-world c =
    let at = name_at c.args.name.now c.self.inside.names c.in-Some.number (sym c.number_of.ensures ∙ c.in-Some.is) in
    c.take-value.ensures.world (subst (λ k. c.in-Some.number < length k.names) c.self.view_is at.0) ∙ ap (λ k. world_after_change (with_variable (get_or k.names c.in-Some.number []) None) (world_of c.args.self.now)) (sym c.self.view_is)
    ∙ ap (λ name. world_after_change (with_variable name None) (world_of c.args.self.now)) at.1
