use Rattle.std.proofs.Common.{◌≡◌, ◌-◌}
use Rattle.values.specs.Data.{items_append}
use Rattle.values.specs.View.{items_of}
use Rattle.language_calls.specs.Range.{how_many, integers_from}
use Rattle.language_calls.proofs.ranges.integers.Given as goal

-- those so far and those that are left are all
abbrev pub invariant-loop-next : goal.invariant-loop-next
invariant-loop-next l =
    items_append (items_of l.integers.items) (integers_from (how_many l.next l.stop (l.step - 1)) l.next l.step)
    ≡ integers_from (how_many l.start l.stop (l.step - 1)) l.start l.step

abbrev pub decreases-loop-next : goal.decreases-loop-next
decreases-loop-next l = l.stop - l.next
