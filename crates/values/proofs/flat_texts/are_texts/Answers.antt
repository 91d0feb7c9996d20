use Rattle.std.proofs.Common.{◌∙◌}
use Rattle.values.proofs.FlatLists.{are_texts-items_of}
use Rattle.values.proofs.flat_texts.are_texts.Goals as goal

pub returns : goal.returns
returns c = c.items_are_texts.ensures ∙ are_texts-items_of c.args.values.now
