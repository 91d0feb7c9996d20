use Rattle.std.proofs.Common.{map, ap, ◌∙◌, ◌++◌}
use Rattle.values.specs.View.{data_of, items_of}
use Rattle.values.specs.Flat.{opened_items}
use Rattle.values.proofs.FlatLists.{opened-items_of}
use Rattle.values.proofs.flatten.flatten_values.Goals as goal

pub returns : goal.returns
returns c =
    c.in_ok-open_items.ensures ∙ ap (λ vs. map (λ v. data_of v.now) vs ++ opened_items (items_of c.args.values.now)) c.new-found.ensures.items
    ∙ opened-items_of c.args.values.now
