use Rattle.std.proofs.Common.{codes, lit<, rules, []}
use Rattle.std.specs.Prelude.{not, ◌||◌}
use Rattle.std.specs.Str.{bytes_eq}
use Rattle.std.proofs.lemmas.Iterator.Search.{all_from_yields_List}
use Rattle.std.proofs.lemmas.Iterator.Splits.{YieldsList-from_str_split}
use Rattle.support.proofs.paths.named.is_path.Goals as goal

pub returns : goal.returns
returns c =
    let cut = c.split.ensures in
    all_from_yields_List (λ part. not (bytes_eq part [] || (bytes_eq part (codes ".") || bytes_eq part (codes "..")))) _ _ c.all.result c.all.ensures.ran
    (YieldsList-from_str_split 47 c.args.text.now (lit< tt) cut.text cut.has_more cut.pattern) (λ x b q k. search rules)
