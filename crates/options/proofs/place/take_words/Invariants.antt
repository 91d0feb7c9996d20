use Rattle.std.proofs.Common.{◌≡◌, take}
use Rattle.std.specs.List.{fold}
use Rattle.options.specs.option_file.View.{options_in}
use Rattle.option_values.specs.View.{strings_in}
use Rattle.options.specs.Resolves.{next}
use Rattle.options.specs.Verdicts.{of_words}
use Rattle.options.specs.View.{state_in}
use Rattle.options.proofs.place.take_words.Given as goal

abbrev pub invariant-loop-i : goal.invariant-loop-i
invariant-loop-i l = state_in l.state
    ≡ fold next (state_in l.fn.state) (of_words (options_in l.known.declared.now) 1 (strings_in (take l.i l.words)))
