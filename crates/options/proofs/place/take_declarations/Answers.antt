use Rattle.std.proofs.Common.{◌∙◌, sym, ap, arith}
use Rattle.options.specs.option_file.View.{options_in, option_in}
use Rattle.options.specs.Resolves.{State, next}
use Rattle.options.specs.Verdicts.{of_declaration}
use Rattle.options.specs.View.{state_in}
use Rattle.options.proofs.Folds.{fold_got, is_there, rest_of_map}
use Rattle.options.proofs.place.take_declarations.Goals as goal

pub returns-in_default : goal.returns-in_default
returns-in_default c = is_there (options_in c.args.declared.now) c.loop-i.i c.in_default.ensures (omega arith)

pub loop-i-preserved : goal.loop-i-preserved
loop-i-preserved c =
    c.in_ok-next.ensures ∙ ap (next (state_in c.loop-i.state)) c.in_ok-verdict.ensures
    ∙ ap (λ (s : State). next s (of_declaration (option_in c.in-Some.name.now c.in-Some.declaration.now))) c.loop-i.invariant
    ∙ sym (fold_got of_declaration (state_in c.args.state.now) (options_in c.args.declared.now) c.loop-i.i _ c.in-Some.ensures)

pub returns-then-is_refused : goal.returns-then-is_refused
returns-then-is_refused c = rest_of_map of_declaration (state_in c.args.state.now) (state_in c.loop-i.state)
    (options_in c.args.declared.now) c.loop-i.i c.loop-i.invariant
    (sym c.is_refused.ensures ∙ c.if-is_refused.true)
