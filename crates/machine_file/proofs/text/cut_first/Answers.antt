use Rattle.std.proofs.lemmas.Str.Pattern.{split_parts}
use Rattle.machine_file.proofs.Cutting.{split_first}
use Rattle.machine_file.proofs.text.cut_first.Goals as goal

pub returns : goal.returns
returns c = split_first c.args.at c.args.text.now c.split_once.result
    (split_parts c.args.at c.args.text.now c.split_once.result c.split_once.ensures.cases c.requires)
