use Rattle.std.proofs.Common.{Some, sym, ap, ◌∙◌}
use Rattle.support.specs.Texts.{texts}
use Rattle.path_set.proofs.PathLists.{inserted, tested_more, tested_present, added_more, begins_more}
use Rattle.path_set.proofs.insert_new.Goals as goal

pub returns-then-not-branch-clause-tested : goal.returns-then-not-branch-clause-tested
returns-then-not-branch-clause-tested c =
    ap Some c.as_str.ensures.value
    ∙ sym (c.loop-path.invariant.tested
    ∙ tested_present c.loop-path.paths.keys c.args.fresh.now c.loop-path.path-index c.path-item.result c.in_ok-clone.field-0 c.in_ok-insert.field-0
    c.loop-path-test.true c.path-item.is c.in_ok-clone.ensures.cases c.in_ok-insert.ensures.added c.if-not-branch.true)

pub loop-path-preserved : goal.loop-path-preserved
loop-path-preserved c =
    let one = inserted c.loop-path.paths.keys c.insert.new.self.keys c.in_ok-clone.field-0 c.path-item.result c.in_ok-insert.field-0 c.in_ok-clone.ensures.cases c.in_ok-insert.ensures.added c.if-not-branch.false c.in_ok-insert.ensures.keys in
    record {
      tested = c.loop-path.invariant.tested ∙ tested_more c.loop-path.paths.keys c.insert.new.self.keys c.args.fresh.now c.loop-path.path-index c.path-item.result c.loop-path-test.true c.path-item.is one;
      added = added_more (texts c.args.paths.now.keys) c.loop-path.paths.keys c.insert.new.self.keys c.args.fresh.now c.loop-path.path-index c.path-item.result c.loop-path-test.true c.path-item.is one c.loop-path.invariant.added;
      begins = begins_more c.args.paths.now.keys c.loop-path.paths.keys c.insert.new.self.keys _ one c.loop-path.invariant.begins;
    }
