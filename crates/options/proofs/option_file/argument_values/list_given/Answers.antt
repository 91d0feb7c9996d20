use Rattle.std.proofs.Common.{arith}
use Rattle.options.proofs.Items.{listed_first, listed_other, listed_more, listed_end}
use Rattle.options.proofs.option_file.argument_values.list_given.Goals as goal

pub loop-item-init : goal.loop-item-init
loop-item-init c = listed_first c.args.items.items c.into_iter-item-iterator.result.rest.items c.new-texts.result.items
    c.new-texts.ensures.items c.into_iter-item-iterator.ensures.into_iter_gives.0

pub returns-in_default : goal.returns-in_default
returns-in_default c = listed_other c.args.items.items c.loop-item.item-iterator.rest.items c.next.new.self.rest.items
    c.loop-item.texts.items c.in-Some.item c.loop-item.invariant c.in-Some.ensures.steps.0
    c.in_default.not-Text

pub loop-item-preserved : goal.loop-item-preserved
loop-item-preserved c = listed_more c.args.items.items c.loop-item.item-iterator.rest.items c.next.new.self.rest.items
    c.loop-item.texts.items c.push.new.self.items c.in-Some.item c.in-Text.text c.loop-item.invariant
    c.in-Some.ensures.steps.0 c.in-Text.is c.in_ok-push.ensures.items

pub returns : goal.returns
returns c = listed_end c.args.items.items c.loop-item.item-iterator.rest.items c.loop-item.texts.items c.loop-item.invariant
    (omega (arith, c.loop-item.item-iterator.rest.ok.0, c.in-None.ensures.steps.0))
