use Rattle.std.proofs.Common.{◌≡◌, sym, ap, ◌∙◌, arith}
use Rattle.std.specs.Prelude.{◌+◌, ◌||◌}
use Rattle.values.specs.Data.{items_append, item, no_items, count, have_disabler}
use Rattle.values.specs.Weight.{items_weight, items_depth}
use Rattle.values.specs.View.{data_of, items_of}
use Rattle.values.proofs.ItemsLemmas.{items_of-push, weight_pushed, depth_pushed, within_facts, count-items_of, disabler_pushed}
use Rattle.values.proofs.value.List.push.Goals as goal

pub invariant_of-self-2 : goal.invariant_of-self-2
invariant_of-self-2 c =
    let new = c.push.new.self.items in
    let old = c.args.self.now in
    let more = items_append old (item (data_of c.args.value) no_items) in
    let is : items_of new ≡ more = items_of-push c.self.inside.items.items new c.args.value old c.in_ok-push.ensures.items c.self.view_is in
    let fit = within_facts (count more) (items_weight more + 1) (items_depth more + 1) c.requires in
    record {
      weight = omega (arith, ap items_weight is, weight_pushed old (data_of c.args.value), c.self.invariant.weight, ap items_weight c.self.view_is, c.weight-weight.ensures.weight);
      depth = omega (arith, ap items_depth is, depth_pushed old (data_of c.args.value), c.self.invariant.depth, ap items_depth c.self.view_is, c.depth-depth.ensures.depth, c.max-self-inside.ensures);
      disabled =
          c.either-has_disabler.ensures ∙ ap (λ b. b || c.has_disabler.result) (c.self.invariant.disabled ∙ ap have_disabler c.self.view_is)
          ∙ ap (λ b. have_disabler old || b) c.has_disabler.ensures ∙ sym (ap have_disabler is ∙ disabler_pushed old (data_of c.args.value));
      few = omega (arith, fit.0, ap count is, count-items_of new);
      light = omega (arith, fit.1.0, weight_pushed old (data_of c.args.value), c.self.invariant.weight, ap items_weight c.self.view_is, c.weight-weight.ensures.weight);
      shallow = omega (arith, fit.1.1, depth_pushed old (data_of c.args.value), c.self.invariant.depth, ap items_depth c.self.view_is, c.depth-depth.ensures.depth, c.max-self-inside.ensures);
    }

pub returns-clause-ok : goal.returns-clause-ok
returns-clause-ok c = items_of-push c.self.inside.items.items c.push.new.self.items c.args.value c.args.self.now c.in_ok-push.ensures.items c.self.view_is
