use Rattle.std.proofs.Common.{◌≡◌, [], map, drop}
use Rattle.operations.specs.methods.Dictionaries.{sorted_with}
use Rattle.operations.proofs.methods.dictionaries.key_set.Given as goal

-- the keys so far and what is left make the whole
abbrev pub invariant-loop-key : goal.invariant-loop-key
invariant-loop-key l = sorted_with (map (λ k. k.now) l.sorted.keys) (drop l.key-index l.keys) ≡ sorted_with [] l.keys
