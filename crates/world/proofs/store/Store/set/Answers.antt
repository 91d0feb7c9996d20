use Rattle.std.proofs.Common.{Some, ap, sym, subst, ◌∙◌, arith}
use Rattle.std.proofs.lemmas.Grind.{common_steps}
use Rattle.code.specs.Draft.{IsFront}
use Rattle.code.proofs.NameLists.{begins_with_name}
use Rattle.values.specs.View.{data_of}
use Rattle.world.specs.Store.{world_after_change, world_of}
use Rattle.world.specs.World.{with_variable}
use Rattle.world.proofs.Setting.{slots_fit, variables_set, world_with}
use Rattle.world.proofs.store.Store.set.Goals as goal

pub returns-in_err-reach-clause-names : goal.returns-in_err-reach-clause-names
returns-in_err-reach-clause-names c =
    let s = c.self.inside in
    subst (λ k. IsFront k.names c.put.new.self) c.self.view_is
    (subst (λ n. IsFront s.names n) (sym c.in_ok-number.ensures.names) (begins_with_name c.args.name.now s.names))

pub returns-clause-names : goal.returns-clause-names
returns-clause-names c =
    let s = c.self.inside in
    subst (λ k. IsFront k.names c.put.new.self) c.self.view_is
    (subst (λ n. IsFront s.names n) (sym c.in_ok-number.ensures.names) (begins_with_name c.args.name.now s.names))

pub invariant_of-self-2 : goal.invariant_of-self-2
invariant_of-self-2 c =
    let s = c.self.inside in
    slots_fit s.names c.put.new.self s.slots.items c.reach.new.slots.items c.args.name.now c.in_ok-number.number (Some c.args.value)
    c.in_ok-number.ensures.names c.in_ok-number.ensures.number c.in_ok-reach.ensures.few c.self.invariant

pub returns-clause-world : goal.returns-clause-world
returns-clause-world c =
    let s = c.self.inside in
    world_with _ c.put.new.self _ c.args.name.now (Some (data_of c.args.value))
    (variables_set s.names c.put.new.self s.slots.items c.reach.new.slots.items c.args.name.now c.in_ok-number.number (Some c.args.value)
    c.in_ok-number.ensures.names c.in_ok-number.ensures.number c.in_ok-reach.ensures.same c.in_ok-reach.ensures.room)
    ∙ ap (λ k. world_after_change (with_variable c.args.name.now (Some (data_of c.args.value))) (world_of k)) c.self.view_is

pub invariant_of-self-in_err-reach : goal.invariant_of-self-in_err-reach
invariant_of-self-in_err-reach c = grind (arith, common_steps)
