use Rattle.std.proofs.Common.{◌∙◌, sym, ap, arith}
use Rattle.std.specs.List.{fold}
use Rattle.machine_file.specs.Files as machine
use Rattle.machine_file.specs.View.{machine_in, entries_of}
use Rattle.options.specs.option_file.View.{options_in}
use Rattle.options.specs.Resolves.{State, next}
use Rattle.options.specs.Verdicts.{of_section}
use Rattle.options.specs.View.{state_in}
use Rattle.options.proofs.Folds.{fold_all_got, is_there}
use Rattle.options.proofs.place.take_machine.Goals as goal

pub returns-in_default : goal.returns-in_default
returns-in_default c = is_there (machine_in c.args.machine.now) c.loop-i.i c.in_default.ensures (omega arith)

pub loop-i-preserved : goal.loop-i-preserved
loop-i-preserved c =
    let f = of_section (options_in c.args.known.now.declared.now) in
    let section : machine.Section = record { name = c.in-Some.name.now; entries = entries_of c.in-Some.section.now } in
    c.in_ok-take_section.ensures
    ∙ ap (λ (s : State). fold next s (f section)) c.loop-i.invariant
    ∙ sym (fold_all_got f (state_in c.args.state.now) (machine_in c.args.machine.now) c.loop-i.i section c.in-Some.ensures)
