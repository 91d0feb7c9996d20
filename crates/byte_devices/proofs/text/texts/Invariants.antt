use Rattle.std.proofs.Common.{length, ◌-◌, map, string_bytes}
use Rattle.byte_devices.proofs.SpelledTexts.{ReadUpTo}
use Rattle.byte_devices.proofs.text.texts.Given as goal

abbrev pub invariant-loop-at : goal.invariant-loop-at
invariant-loop-at l = ReadUpTo l.bytes l.at (map string_bytes l.found.items)

abbrev pub decreases-loop-at : goal.decreases-loop-at
decreases-loop-at l = length l.bytes - l.at
