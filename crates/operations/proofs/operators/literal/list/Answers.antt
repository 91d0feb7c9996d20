use Rattle.std.proofs.Common.{sym, ap, ◌∙◌, Ok}
use Rattle.values.specs.View.{items_of}
use Rattle.operations.proofs.LimitLemmas.{list_within, list_past}
use Rattle.operations.proofs.operators.literal.list.Goals as goal

pub returns-in_ok-of_list-in-Ok : goal.returns-in_ok-of_list-in-Ok
returns-in_ok-of_list-in-Ok c = list_within (items_of c.args.items.items) c.in-Ok.list c.in-Ok.ensures ∙ ap (λ d. Ok d) (sym c.in_ok-of_list-in-Ok.ensures)

pub returns-in-Err : goal.returns-in-Err
returns-in-Err c = list_past (items_of c.args.items.items) c.in-Err.refusal c.in-Err.ensures
