use Rattle.std.proofs.Common.{◌≡◌, ℕ, List, take}
use Rattle.support.specs.Among.{is_among}
use Rattle.option_values.specs.View.{strings_in}
use Rattle.option_values.proofs.choices.set_of.Given as goal

abbrev pub invariant-loop-text : goal.invariant-loop-text
invariant-loop-text l = (text : List ℕ) → is_among (strings_in l.known.keys) text ≡ is_among (strings_in (take l.text-index l.texts)) text
