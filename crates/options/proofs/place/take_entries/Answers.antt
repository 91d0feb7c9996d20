use Rattle.std.proofs.Common.{◌∙◌, sym, ap, arith}
use Rattle.machine_file.specs.View.{entries_of, value_in}
use Rattle.options.specs.option_file.View.{options_in}
use Rattle.options.specs.Resolves.{State, next}
use Rattle.options.specs.declared.fault.Origin.TheVariants.{MachineFile}
use Rattle.options.specs.Verdicts.{of_named, of_entry}
use Rattle.options.specs.View.{state_in, key_in}
use Rattle.options.proofs.Folds.{fold_got, is_there, rest_of_map}
use Rattle.options.proofs.place.take_entries.Goals as goal

pub returns-in_default : goal.returns-in_default
returns-in_default c = is_there (entries_of c.args.section.now) c.loop-i.i c.in_default.ensures (omega arith)

pub loop-i-preserved : goal.loop-i-preserved
unfolding of_entry
loop-i-preserved c =
    let f = of_entry (options_in c.args.known.now.declared.now) c.args.scope in
    let entry = c.in-Some.entry.now in
    c.in_ok-next.ensures ∙ ap (next (state_in c.loop-i.state)) (c.in_ok-verdict.ensures
    ∙ ap (of_named (MachineFile entry.line) c.in-Some.key.now (value_in entry.value)) c.kind_in_scope-kind.ensures)
    ∙ ap (λ (s : State). next s (f (key_in c.in-Some.key.now c.in-Some.entry.now))) c.loop-i.invariant
    ∙ sym (fold_got f (state_in c.args.state.now) (entries_of c.args.section.now) c.loop-i.i _ c.in-Some.ensures)

pub returns-then-is_refused : goal.returns-then-is_refused
returns-then-is_refused c = rest_of_map (of_entry (options_in c.args.known.now.declared.now) c.args.scope) (state_in c.args.state.now)
    (state_in c.loop-i.state)
    (entries_of c.args.section.now) c.loop-i.i c.loop-i.invariant (sym c.is_refused.ensures ∙ c.if-is_refused.true)
