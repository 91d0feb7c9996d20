use Rattle.std.proofs.Common.{ℕ, List, ◌∙◌, sym, ap}
use Rattle.syntax.specs.Tree.{statement_of}
use Rattle.options.specs.option_file.Lookups.{is_used}
use Rattle.options.specs.option_file.View.{call_in, entry_in, options_in}
use Rattle.options.proofs.NewNames.{declared_new}
use Rattle.options.proofs.option_file.file.after.Goals as goal

pub with-requires : goal.with-requires
with-requires c = declared_new (statement_of c.args.statement.now) (entry_in c.in-Ok.option) (options_in c.args.declared)
    (ap call_in (sym c.in-Ok.is) ∙ c.in_ok-option.ensures)
    (ap (λ (name : List ℕ). is_used name (options_in c.args.declared)) (sym c.as_str.ensures.value) ∙ sym c.has.ensures ∙ c.if-has.false)
