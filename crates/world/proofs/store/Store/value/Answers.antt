use Rattle.std.proofs.Common.{◌≡◌, ◌<◌, length, get_or, [], Option, option_map, sym, ap, subst, ◌∙◌}
use Rattle.std.proofs.lemmas.Result.{IfOk-weaker}
use Rattle.values.specs.View.{data_of}
use Rattle.values.specs.declared.value.Value.{Value}
use Rattle.world.specs.Store.{kept_variables, slot_value}
use Rattle.world.proofs.Setting.{variable_at}
use Rattle.world.proofs.store.Store.value.Goals as goal

pub returns : goal.returns
returns c =
    let s = c.self.inside in
    let n = c.args.number in
    IfOk-weaker c.slot.result (λ (v : Option Value). option_map data_of v ≡ slot_value c.deref.result.now n)
    (λ (v : Option Value). n < length c.args.self.now.names → option_map data_of v ≡ kept_variables c.args.self.now.names c.args.self.now.slots (get_or c.args.self.now.names n []))
    (λ v e h. e ∙ ap (λ slots. slot_value slots n) c.deref.ensures.value
    ∙ sym (variable_at s.names s.slots.items n c.len.ensures.distinct (subst (λ k. n < length k.names) (sym c.self.view_is) h))
    ∙ ap (λ k. kept_variables k.names k.slots (get_or k.names n [])) c.self.view_is)
    c.slot.ensures
