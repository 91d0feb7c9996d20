use Rattle.std.proofs.Common.{◌∙◌, sym, ap}
use Rattle.std.specs.Option.{option_map}
use Rattle.options.specs.option_file.View.{given_in}
use Rattle.options.proofs.Items.{found_first, item_none, item_more, items_end}
use Rattle.options.proofs.option_file.argument_values.items_given.Goals as goal

pub loop-item-init : goal.loop-item-init
loop-item-init c = found_first c.args.items.now c.new-all.result.items c.new-all.ensures.items

pub returns-in_default : goal.returns-in_default
returns-in_default c = item_none c.args.items.now c.loop-item.all.items c.loop-item.item-index c.item-item.result c.loop-item.invariant
    c.loop-item-test.true c.item-item.is
    (ap (option_map given_in) (sym c.in_default.is) ∙ c.in_ok-given.ensures)

pub loop-item-preserved : goal.loop-item-preserved
loop-item-preserved c = item_more c.args.items.now c.loop-item.all.items c.push.new.self.items c.loop-item.item-index c.item-item.result
    c.in-Some.given c.loop-item.invariant c.loop-item-test.true c.item-item.is
    (ap (option_map given_in) (sym c.in-Some.is) ∙ c.in_ok-given.ensures) c.in_ok-push.ensures.items

pub returns : goal.returns
returns c = items_end c.args.items.now c.loop-item.all.items c.loop-item.item-index c.loop-item.invariant c.loop-item-test.false
