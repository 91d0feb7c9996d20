use Rattle.std.proofs.Common.{◌<◌, length, [], get_or, Some, ap, arith, subst, sym, ◌∙◌}
use Rattle.values.specs.View.{data_of}
use Rattle.world.specs.Store.{world_after_change, world_of}
use Rattle.world.specs.World.{with_variable}
use Rattle.world.proofs.Setting.{slots_within, variables_at, world_with}
use Rattle.world.proofs.store.Store.put.Goals as goal

pub invariant_of-self-2 : goal.invariant_of-self-2
invariant_of-self-2 c =
    let s = c.self.inside in
    let within : c.args.number < length s.names = omega (arith, c.if-number-count.false, c.len-count.ensures.len) in
    slots_within s.names s.slots.items c.reach.new.slots.items c.args.number (Some c.args.value) within c.in_ok-reach.ensures.few c.self.invariant

pub returns-clause-world : goal.returns-clause-world
returns-clause-world c = λ h.
    let s = c.self.inside in
    let n = c.args.number in
    let here : n < length s.names = subst (λ k. n < length k.names) (sym c.self.view_is) h in
    world_with _ s.names _ (get_or s.names n []) (Some (data_of c.args.value))
    (variables_at s.names s.slots.items c.reach.new.slots.items n (Some c.args.value) c.len-count.ensures.distinct here
    c.in_ok-reach.ensures.same c.in_ok-reach.ensures.room)
    ∙ ap (λ k. world_after_change (with_variable (get_or k.names n []) (Some (data_of c.args.value))) (world_of k)) c.self.view_is
