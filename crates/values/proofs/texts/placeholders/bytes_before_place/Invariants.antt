use Rattle.std.proofs.Common.{◌≡◌, ℕ, ◌<◌, drop}
use Rattle.values.specs.texts.Segments.{place_length}
use Rattle.values.proofs.texts.placeholders.bytes_before_place.Given as goal

abbrev pub invariant-loop-i : goal.invariant-loop-i
invariant-loop-i l = (k : ℕ) → k < l.i → place_length l.places (drop k l.text) ≡ 0
