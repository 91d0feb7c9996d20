use Rattle.std.proofs.Common.{◌≡◌, take}
use Rattle.std.specs.List.{fold, flat_map}
use Rattle.machine_file.specs.View.{machine_in}
use Rattle.options.specs.option_file.View.{options_in}
use Rattle.options.specs.Resolves.{next}
use Rattle.options.specs.Verdicts.{of_section}
use Rattle.options.specs.View.{state_in}
use Rattle.options.proofs.place.take_machine.Given as goal

abbrev pub invariant-loop-i : goal.invariant-loop-i
invariant-loop-i l = state_in l.state
    ≡ fold next (state_in l.fn.state) (flat_map (of_section (options_in l.known.declared.now)) (take l.i (machine_in l.machine)))
