use Rattle.std.proofs.Common.{◌≡◌, map, drop}
use Rattle.values.specs.Data.{items_append}
use Rattle.values.specs.View.{items_of}
use Rattle.operations.specs.methods.TextLists.{texts}
use Rattle.operations.proofs.methods.dictionaries.key_values.Given as goal

-- the values so far and those of what is left are all
abbrev pub invariant-loop-key : goal.invariant-loop-key
invariant-loop-key l =
    items_append (items_of l.values.items) (texts (map (λ k. k.now) (drop l.key-index l.keys))) ≡ texts (map (λ k. k.now) l.keys)
