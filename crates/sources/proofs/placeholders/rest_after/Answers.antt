use Rattle.sources.proofs.Numbers.{strips}
use Rattle.sources.proofs.placeholders.rest_after.Goals as goal

pub returns : goal.returns
returns c = strips c.args.front.now c.args.text.now c.strip_prefix.result c.strip_prefix.ensures.cases
