use Rattle.std.proofs.Common.{◌≡◌, Some, option_and_then, sym, ap, ◌∙◌}
use Rattle.std.specs.Int.{w128}
use Rattle.std.proofs.lemmas.Int.{to_z-of_z}
use Rattle.values.specs.Data.{count}
use Rattle.values.proofs.EntriesLemmas.{copied}
use Rattle.operations.specs.operators.Index.{item_at, place}
use Rattle.operations.proofs.PartLemmas.{item_at-items_of}
use Rattle.operations.proofs.operators.parts.indexed_item.Goals as goal

pub returns : goal.returns
returns c =
    let ds = c.args.list.now in
    let vs = c.items.result.now in
    let at : Some c.in_ok-at.at ≡ place c.args.index (count ds) = c.in_ok-at.ensures ∙ ap (λ i. place i c.len.result) (to_z-of_z w128 c.args.index c.ranges.index) ∙ ap (place c.args.index) c.len.ensures.len in
    copied c.get.result vs c.in_ok-at.at c.get.ensures.lookup.0 c.get.ensures.lookup.1
    ∙ sym (item_at-items_of vs c.in_ok-at.at) ∙ ap (λ x. item_at x c.in_ok-at.at) c.items.ensures.items
    ∙ ap (option_and_then (item_at ds)) at
