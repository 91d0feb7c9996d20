use Rattle.std.proofs.Common.{◌≡◌, map, drop}
use Rattle.values.specs.Data.{no_items}
use Rattle.values.specs.View.{items_of}
use Rattle.operations.specs.operators.TextLists.{texts_behind}
use Rattle.operations.proofs.operators.literal.text_values.Given as goal

-- the values so far and the texts that are left decide
abbrev pub invariant-loop-text : goal.invariant-loop-text
invariant-loop-text l =
    texts_behind (items_of l.values.items) (map (λ t. t.now) (drop l.text-index l.texts)) ≡ texts_behind no_items (map (λ t. t.now) l.texts)
