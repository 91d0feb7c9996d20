use Rattle.std.proofs.Common.{◌≡◌, drop}
use Rattle.values.specs.View.{items_of}
use Rattle.values.specs.Data.{items_append}
use Rattle.values.proofs.value.List.extend.Given as goal

-- what is there so far and what is left are all
abbrev pub invariant-loop-item : goal.invariant-loop-item
invariant-loop-item l = items_append l.self (items_of (drop l.item-index l.items)) ≡ items_append l.initial.self (items_of l.items)
