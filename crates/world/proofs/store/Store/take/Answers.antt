use Rattle.std.proofs.Common.{◌<◌, length, [], get_or, None, ap, subst, sym, ◌∙◌}
use Rattle.world.specs.Store.{world_after_change, kept_variables, world_of}
use Rattle.world.specs.World.{with_variable}
use Rattle.world.proofs.Setting.{variable_at, variables_taken, world_with}
use Rattle.world.proofs.store.Store.take.Goals as goal

pub returns-clause-value : goal.returns-clause-value
returns-clause-value c = λ h.
    let s = c.self.inside in
    let n = c.args.number in
    let here : n < length s.names = subst (λ k. n < length k.names) (sym c.self.view_is) h in
    c.take_value.ensures.value ∙ sym (variable_at s.names s.slots.items n c.len-distinct.ensures.distinct here) ∙ ap (λ k. kept_variables k.names k.slots (get_or k.names n [])) c.self.view_is

pub returns-clause-world : goal.returns-clause-world
returns-clause-world c = λ h.
    let s = c.self.inside in
    let n = c.args.number in
    let here : n < length s.names = subst (λ k. n < length k.names) (sym c.self.view_is) h in
    world_with _ s.names c.take_value.new.slots.items (get_or s.names n []) None
    (variables_taken s.names s.slots.items c.take_value.new.slots.items n c.len-distinct.ensures.distinct here c.take_value.ensures.same c.take_value.ensures.none)
    ∙ ap (λ k. world_after_change (with_variable (get_or k.names n []) None) (world_of k)) c.self.view_is
