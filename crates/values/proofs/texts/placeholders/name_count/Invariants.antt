use Rattle.std.proofs.Common.{◌≡◌, ℕ, ◌<◌, true, get_or}
use Rattle.values.specs.texts.Segments.{is_name_byte}
use Rattle.values.proofs.texts.placeholders.name_count.Given as goal

abbrev pub invariant-loop-i : goal.invariant-loop-i
invariant-loop-i l = (k : ℕ) → k < l.i → is_name_byte (get_or l.bytes k 0) ≡ true
