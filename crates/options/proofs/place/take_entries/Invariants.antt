use Rattle.std.proofs.Common.{◌≡◌, take, map}
use Rattle.std.specs.List.{fold}
use Rattle.machine_file.specs.View.{entries_of}
use Rattle.options.specs.option_file.View.{options_in}
use Rattle.options.specs.Resolves.{next}
use Rattle.options.specs.Verdicts.{of_entry}
use Rattle.options.specs.View.{state_in}
use Rattle.options.proofs.place.take_entries.Given as goal

abbrev pub invariant-loop-i : goal.invariant-loop-i
invariant-loop-i l = state_in l.state
    ≡ fold next (state_in l.fn.state) (map (of_entry (options_in l.known.declared.now) l.scope) (take l.i (entries_of l.section)))
