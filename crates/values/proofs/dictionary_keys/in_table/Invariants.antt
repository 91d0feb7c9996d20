use Rattle.std.proofs.Common.{◌≡◌, [], bytes_eq, take}
use Rattle.support.specs.Sets.{insert_all}
use Rattle.values.proofs.dictionary_keys.in_table.Given as goal

-- the keys so far have been put in
abbrev pub invariant-loop-key : goal.invariant-loop-key
invariant-loop-key l = l.table.keys ≡ insert_all bytes_eq [] (take l.key-index l.keys.items)
