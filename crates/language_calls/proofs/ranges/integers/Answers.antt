use Rattle.std.proofs.Common.{◌-◌, ◌+◌, refl, sym, ap, ◌∙◌, arith}
use Rattle.values.specs.Data.{integer, item, no_items, items_append}
use Rattle.values.specs.View.{items_of}
use Rattle.values.proofs.ItemsLemmas.{items_of-push, items_append_assoc, items_append_none}
use Rattle.std.specs.Prelude.{pos}
use Rattle.language_calls.specs.Range.{how_many, integers_from}
use Rattle.language_calls.proofs.Counting.{first_of, none_of}
use Rattle.language_calls.proofs.ranges.integers.Goals as goal

pub loop-next-preserved : goal.loop-next-preserved
loop-next-preserved c =
    let next = c.loop-next.next in
    let step = c.args.step in
    let before = items_of c.loop-next.integers.items in
    let rest = integers_from (how_many (next + step) c.args.stop (step - 1)) (next + step) step in
    ap (λ ds. items_append ds rest) (items_of-push c.loop-next.integers.items _ _ before c.in_ok-push.ensures.items refl
    ∙ ap (λ d. items_append before (item d no_items)) c.integer.ensures)
    ∙ items_append_assoc before (item (integer (pos next)) no_items) rest
    ∙ ap (items_append before) (sym (first_of next c.args.stop step c.requires.step (omega (arith, c.loop-next-test.true))))
    ∙ c.loop-next.invariant

pub returns : goal.returns
returns c =
    let next = c.loop-next.next in
    let before = items_of c.loop-next.integers.items in
    sym (items_append_none before)
    ∙ ap (items_append before) (sym (none_of next c.args.stop c.args.step (omega (arith, c.loop-next-test.false))))
    ∙ c.loop-next.invariant
