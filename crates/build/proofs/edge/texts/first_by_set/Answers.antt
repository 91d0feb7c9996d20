use Rattle.build.proofs.TextLists.{kept_more}
use Rattle.build.proofs.edge.texts.first_by_set.Goals as goal

pub loop-text-preserved : goal.loop-text-preserved
loop-text-preserved c =
    kept_more c.loop-text.kept.keys c.insert.new.self.keys c.args.all.now c.in_ok-clone.field-0 c.loop-text.text-index
    c.text-item.result c.loop-text-test.true c.text-item.is c.in_ok-clone.ensures.cases c.in_ok-insert.ensures.keys c.loop-text.invariant
