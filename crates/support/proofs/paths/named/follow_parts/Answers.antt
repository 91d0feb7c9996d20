use Rattle.std.proofs.Common.{lit<, arith, ◌∙◌, sym}
use Rattle.std.proofs.lemmas.Iterator.Consumers.{YieldsList-at, YieldsList-turn, YieldsList-end}
use Rattle.std.proofs.lemmas.Iterator.Splits.{YieldsList-from_str_split}
use Rattle.std.proofs.lemmas.List.{at_drop_all, length_push}
use Rattle.support.specs.paths.Folder.{folder_of}
use Rattle.support.specs.paths.Paths.{follow_parts, parts_of}
use Rattle.support.proofs.PathTexts.{follow_out, follow_on}
use Rattle.support.proofs.paths.named.follow_parts.Goals as goal

pub returns-then-not-branch : goal.returns-then-not-branch
returns-then-not-branch c =
    let cut = c.split-part-items.ensures in
    let all = YieldsList-at c.into_iter-part-iterator.ensures.into_iter_gives (YieldsList-from_str_split 47 c.args.text.now (lit< tt) cut.text cut.has_more cut.pattern) in
    let turn = YieldsList-turn all c.loop-part.yielded _ c.loop-part.yielded_by _ _ c.in-Some.part c.in-Some.is c.next.ensures.steps in
    follow_out (folder_of c.loop-part.folder) _ _ _ _ _ _ turn c.loop-part.invariant c.in_ok-follow.ensures c.if-not-branch.true

pub loop-part-preserved : goal.loop-part-preserved
loop-part-preserved c =
    let cut = c.split-part-items.ensures in
    let all = YieldsList-at c.into_iter-part-iterator.ensures.into_iter_gives (YieldsList-from_str_split 47 c.args.text.now (lit< tt) cut.text cut.has_more cut.pattern) in
    let turn = YieldsList-turn all c.loop-part.yielded _ c.loop-part.yielded_by _ _ c.in-Some.part c.in-Some.is c.next.ensures.steps in
    follow_on (folder_of c.loop-part.folder) _ _ _ _ _ _ _ turn c.loop-part.invariant c.in_ok-follow.ensures c.if-not-branch.false (length_push c.loop-part.yielded c.in-Some.part)

pub returns : goal.returns
returns c =
    let cut = c.split-part-items.ensures in
    let all = YieldsList-at c.into_iter-part-iterator.ensures.into_iter_gives (YieldsList-from_str_split 47 c.args.text.now (lit< tt) cut.text cut.has_more cut.pattern) in
    let end = YieldsList-end all c.loop-part.yielded _ c.loop-part.yielded_by _ _ c.in-None.is c.next.ensures.steps in
    sym (at_drop_all (follow_parts (folder_of c.loop-part.folder)) (parts_of c.args.text.now) _ (omega (arith, end.1))) ∙ c.loop-part.invariant
