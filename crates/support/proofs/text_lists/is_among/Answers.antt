use Rattle.std.proofs.Common.{bytes_eq, rules, tests, ◌∙◌}
use Rattle.std.proofs.lemmas.Iterator.{YieldsList-from_slice}
use Rattle.std.proofs.lemmas.Iterator.Search.{any_from_yields_List}
use Rattle.support.proofs.Names.{any_name}
use Rattle.support.proofs.text_lists.is_among.Goals as goal

pub returns : goal.returns
returns c =
    any_from_yields_List (λ name. bytes_eq c.args.text.now name.now) _ _ _ c.any.ensures.ran (YieldsList-from_slice c.args.names.now (cc))
    (λ x b q k. search (rules, tests))
    ∙ any_name c.args.text.now c.args.names.now
