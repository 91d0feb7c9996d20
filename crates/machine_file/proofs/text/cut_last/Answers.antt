use Rattle.machine_file.proofs.Cutting.{split_last}
use Rattle.machine_file.proofs.text.cut_last.Goals as goal

pub returns : goal.returns
returns c = split_last c.args.at c.args.text.now c.rsplit_once.result c.requires c.rsplit_once.ensures.cases
