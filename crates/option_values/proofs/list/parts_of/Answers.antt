use Rattle.std.proofs.Common.{◌∙◌, ◌++◌, ◌<◌, length, lit<, arith, sym, map}
use Rattle.std.specs.Prelude.{◌==◌}
use Rattle.std.specs.List.{slice_split}
use Rattle.std.proofs.lemmas.Iterator.Consumers.{YieldsList-at, YieldsList-turn, YieldsList-end}
use Rattle.std.proofs.lemmas.Iterator.Splits.{YieldsList-from_str_split}
use Rattle.std.proofs.lemmas.List.{append-nil, at_drop_all, length_push}
use Rattle.std.proofs.lemmas.Bool.Decides.{nat_tests}
use Rattle.syntax.specs.lexer.Bytes.{comma}
use Rattle.option_values.specs.Lists.{without_spaces}
use Rattle.option_values.specs.View.{strings_in}
use Rattle.option_values.proofs.OptionValuesItems.{parts_more, parts_of-some}
use Rattle.option_values.proofs.list.parts_of.Goals as goal

pub loop-part-preserved : goal.loop-part-preserved
loop-part-preserved c =
    let cut = c.split-part-items.ensures in
    let all = YieldsList-at c.into_iter-part-iterator.ensures.into_iter_gives
    (YieldsList-from_str_split 44 c.args.text.now (lit< tt) cut.text cut.has_more cut.pattern) in
    let turn = YieldsList-turn all c.loop-part.yielded _ c.loop-part.yielded_by _ _ c.in-Some.part c.in-Some.is c.next.ensures.steps in
    parts_more (slice_split (λ x. x == comma) c.args.text.now) c.loop-part.parts.items _ c.in_ok-from_str.field-0 c.in-Some.part.now _ _ _
    turn c.loop-part.invariant
    (c.in_ok-from_str.ensures.ok ∙ c.trim.ensures) c.in_ok-push.ensures.items (length_push c.loop-part.yielded c.in-Some.part)

pub returns : goal.returns
returns c =
    let cut = c.split-part-items.ensures in
    let all = YieldsList-at c.into_iter-part-iterator.ensures.into_iter_gives
    (YieldsList-from_str_split 44 c.args.text.now (lit< tt) cut.text cut.has_more cut.pattern) in
    let end = YieldsList-end all c.loop-part.yielded _ c.loop-part.yielded_by _ _ c.in-None.is c.next.ensures.steps in
    let whole = slice_split (λ x. x == comma) c.args.text.now in
    let some : 0 < length c.args.text.now = grind (arith, nat_tests) in
    sym (append-nil (strings_in c.loop-part.parts.items))
    ∙ sym (at_drop_all (λ xs. strings_in c.loop-part.parts.items ++ map without_spaces xs) whole _ (omega (arith, end.1)))
    ∙ c.loop-part.invariant
    ∙ sym (parts_of-some c.args.text.now some)
