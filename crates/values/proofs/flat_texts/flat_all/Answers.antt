use Rattle.std.proofs.Common.{map, ap, ◌∙◌, ◌++◌}
use Rattle.values.specs.View.{items_of}
use Rattle.values.specs.Flat.{flat_items}
use Rattle.values.proofs.FlatLists.{flat-items_of}
use Rattle.values.proofs.flat_texts.flat_all.Goals as goal

pub returns : goal.returns
returns c =
    c.in_ok-collect_items.ensures ∙ ap (λ ts. map (λ t. t.now) ts ++ flat_items (items_of c.args.values.now)) c.new-found.ensures.items
    ∙ flat-items_of c.args.values.now
