use Rattle.std.proofs.Common.{◌≡◌, ◌++◌, length}
use denote.Text.{Utf8}
use denote.Shadow.{shadow}
use Rattle.values.specs.texts.Pieces.{parts}
use Rattle.values.specs.texts.Joined.{joined_texts}
use Rattle.values.proofs.texts.join_texts.replace.Given as goal

abbrev pub invariant-loop-after : goal.invariant-loop-after
invariant-loop-after l = shadow (Utf8 l.rest) × (joined_texts l.new (parts l.old l.text) ≡ l.made ++ joined_texts l.new
    (parts l.old l.rest))

abbrev pub decreases-loop-after : goal.decreases-loop-after
decreases-loop-after l = length l.rest
