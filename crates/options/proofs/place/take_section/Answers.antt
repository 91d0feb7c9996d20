use Rattle.std.proofs.Common.{◌∙◌, ap}
use Rattle.std.specs.List.{fold}
use Rattle.machine_file.specs.View.{entries_of}
use Rattle.options.specs.option_file.View.{options_in}
use Rattle.options.specs.Resolves.{next}
use Rattle.options.specs.Verdicts.{of_entries, of_section}
use Rattle.options.specs.View.{state_in}
use Rattle.options.proofs.place.take_section.Goals as goal

pub returns-in_ok-take_entries-in-Some : goal.returns-in_ok-take_entries-in-Some
unfolding of_section
returns-in_ok-take_entries-in-Some c = c.in_ok-take_entries-in-Some.ensures
    ∙ ap (λ scope. fold next (state_in c.args.state.now) (of_entries (options_in c.args.known.now.declared.now)
    (entries_of c.args.section.now) scope)) c.in-Some.ensures

pub returns-in-None : goal.returns-in-None
unfolding of_section
returns-in-None c = ap (λ scope. fold next (state_in c.args.state.now)
    (of_entries (options_in c.args.known.now.declared.now) (entries_of c.args.section.now) scope)) c.in-None.ensures
