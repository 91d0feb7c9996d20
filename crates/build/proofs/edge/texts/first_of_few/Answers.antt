use Rattle.build.proofs.TextLists.{few_more}
use Rattle.build.proofs.edge.texts.first_of_few.Goals as goal

pub loop-text-preserved : goal.loop-text-preserved
loop-text-preserved c =
    few_more c.loop-text.kept.items c.put_new.new.kept.items c.args.all.now c.loop-text.text-index c.text-item.result c.loop-text-test.true c.text-item.is c.in_ok-put_new.ensures
    c.loop-text.invariant
