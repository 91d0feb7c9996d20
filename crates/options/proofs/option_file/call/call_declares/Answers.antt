use Rattle.std.proofs.Common.{◌∙◌, List, ℕ, Err, sym, ap}
use Rattle.std.specs.Option.{option_map}
use Rattle.options.specs.option_file.Misfits.{LeftOut, RefusedData, refused_as}
use Rattle.options.specs.option_file.View.{entry_in}
use Rattle.options.proofs.Arguments.{call_left_out, call_else, call_twice}
use Rattle.options.proofs.option_file.call.call_declares.Goals as goal

pub returns-then-branch : goal.returns-then-branch
returns-then-branch c = ap (λ (r : RefusedData). Err r) c.in_ok-refuse_twice.ensures
    ∙ call_twice c.args.line c.args.arguments.now c.in_ok-gives_twice.field-0 c.in_ok-gives_twice.ensures c.if-branch.true

pub returns-then-gives_left_out : goal.returns-then-gives_left_out
returns-then-gives_left_out c = ap (λ (r : RefusedData). Err r) (c.in_ok-refused.ensures
    ∙ ap (λ (k : List ℕ). refused_as (LeftOut k)) c.first_left_out-key.ensures)
    ∙ call_left_out c.args.line c.args.arguments.now c.in_ok-gives_twice.field-0 c.gives_left_out.result
    c.in_ok-gives_twice.ensures c.if-branch.false c.gives_left_out.ensures c.if-gives_left_out.true

pub returns-in-Some : goal.returns-in-Some
returns-in-Some c = call_else c.args.line c.args.arguments.now c.in_ok-gives_twice.field-0 c.gives_left_out.result _
    c.in_ok-gives_twice.ensures c.if-branch.false
    c.gives_left_out.ensures c.if-gives_left_out.false (ap (option_map entry_in) (sym c.in-Some.is) ∙ c.in_ok-option.ensures)

pub returns-in_ok-refused-in-None : goal.returns-in_ok-refused-in-None
returns-in_ok-refused-in-None c = ap (λ (r : RefusedData). Err r) c.in_ok-refused-in-None.ensures
    ∙ call_else c.args.line c.args.arguments.now c.in_ok-gives_twice.field-0 c.gives_left_out.result _
    c.in_ok-gives_twice.ensures c.if-branch.false
    c.gives_left_out.ensures c.if-gives_left_out.false (ap (option_map entry_in) (sym c.in-None.is) ∙ c.in_ok-option.ensures)
