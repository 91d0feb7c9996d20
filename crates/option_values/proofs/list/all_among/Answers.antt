use Rattle.std.proofs.Common.{rules, tests, ◌∙◌, string_bytes}
use Rattle.std.proofs.lemmas.Iterator.{YieldsList-from_slice}
use Rattle.std.proofs.lemmas.Iterator.Search.{all_from_yields_List}
use Rattle.support.specs.Among.{is_among}
use Rattle.option_values.specs.View.{texts_of}
use Rattle.option_values.proofs.OptionValuesItems.{all_items}
use Rattle.option_values.proofs.list.all_among.Goals as goal

pub returns : goal.returns
returns c =
    all_from_yields_List (λ item. is_among (texts_of c.args.choices.now) (string_bytes item)) _ _ _ c.all.ensures.ran
    (YieldsList-from_slice c.args.items.now (cc)) (λ x b q k. search (rules, tests))
    ∙ all_items (texts_of c.args.choices.now) c.args.items.now
