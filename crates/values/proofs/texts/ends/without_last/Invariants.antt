use Rattle.std.proofs.Common.{◌≡◌, length}
use denote.Text.{Utf8}
use denote.Shadow.{shadow}
use Rattle.std.specs.Str.{chars}
use Rattle.values.specs.texts.Strip.{is_in, without_last}
use Rattle.values.proofs.texts.ends.without_last.Given as goal

abbrev pub invariant-loop-last : goal.invariant-loop-last
invariant-loop-last l = shadow (Utf8 l.rest) × (without_last (is_in l.set) (chars l.rest) ≡ without_last (is_in l.set) (chars l.text))

abbrev pub decreases-loop-last : goal.decreases-loop-last
decreases-loop-last l = length l.rest
