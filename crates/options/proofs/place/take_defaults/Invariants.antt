use Rattle.std.proofs.Common.{◌≡◌, take, map}
use Rattle.std.specs.List.{fold}
use Rattle.options.specs.option_file.View.{options_in}
use Rattle.options.specs.Resolves.{next}
use Rattle.options.specs.Verdicts.{of_project_default}
use Rattle.options.specs.View.{defaults_in, state_in}
use Rattle.options.proofs.place.take_defaults.Given as goal

abbrev pub invariant-loop-default : goal.invariant-loop-default
invariant-loop-default l =
    state_in l.state
    ≡ fold next (state_in l.fn.state) (map (of_project_default (options_in l.known.declared.now))
    (defaults_in (take l.default-index l.defaults)))
