use Rattle.std.proofs.Common.{ap, codes, lit<, rules}
use Rattle.std.specs.Prelude.{not}
use Rattle.std.specs.Str.{bytes_eq}
use Rattle.std.proofs.lemmas.Iterator.Search.{any_from_yields_List}
use Rattle.std.proofs.lemmas.Iterator.Splits.{YieldsList-from_str_split}
use Rattle.support.proofs.paths.named.leads_down.Goals as goal

pub returns : goal.returns
returns c =
    let cut = c.split.ensures in
    ap not (any_from_yields_List (bytes_eq (codes "..")) _ _ c.any.result c.any.ensures.ran
    (YieldsList-from_str_split 47 c.args.text.now (lit< tt) cut.text cut.has_more cut.pattern) (λ x b q k. search rules))
