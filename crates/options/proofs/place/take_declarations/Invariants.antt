use Rattle.std.proofs.Common.{◌≡◌, take, map}
use Rattle.std.specs.List.{fold}
use Rattle.options.specs.option_file.View.{options_in}
use Rattle.options.specs.Resolves.{next}
use Rattle.options.specs.Verdicts.{of_declaration}
use Rattle.options.specs.View.{state_in}
use Rattle.options.proofs.place.take_declarations.Given as goal

abbrev pub invariant-loop-i : goal.invariant-loop-i
invariant-loop-i l = state_in l.state ≡ fold next (state_in l.fn.state) (map of_declaration (take l.i (options_in l.declared)))
