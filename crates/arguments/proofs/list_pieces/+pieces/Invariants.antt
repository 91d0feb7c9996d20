use Rattle.std.proofs.Common.{◌≡◌, ◌+◌, ◌*◌, drop}
use Rattle.values.specs.View.{data_of, items_of}
use Rattle.values.specs.Weight.{weight, items_weight}
use Rattle.arguments.specs.Pieces.{all_pieces}
use Rattle.arguments.proofs.list_pieces.+pieces.Given as goal

-- what is left decides
abbrev pub invariant-all_pieces-loop-item : goal.invariant-all_pieces-loop-item
invariant-all_pieces-loop-item l = all_pieces l.piece (items_of (drop l.item-index l.items)) ≡ all_pieces l.piece (items_of l.items)

abbrev pub decreases-are_pieces : goal.decreases-are_pieces
decreases-are_pieces l = 2 * weight (data_of l.value.now)

abbrev pub decreases-all_pieces : goal.decreases-all_pieces
decreases-all_pieces l = 2 * items_weight (items_of l.items.now) + 1
