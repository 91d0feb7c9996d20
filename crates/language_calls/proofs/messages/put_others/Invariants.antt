use Rattle.std.proofs.Common.{◌≡◌, ◌++◌, map, drop, string_bytes}
use Rattle.values.specs.View.{data_of}
use Rattle.values.specs.printing.Pieces.{whole}
use Rattle.language_calls.specs.Saying.{behind_spaces}
use Rattle.language_calls.proofs.messages.put_others.Given as goal

-- what is put and what is left are all
abbrev pub invariant-loop-value : goal.invariant-loop-value
invariant-loop-value l =
    string_bytes l.text ++ whole (behind_spaces (map data_of (drop l.value-index l.values)))
    ≡ string_bytes l.initial.text ++ whole (behind_spaces (map data_of l.values))
