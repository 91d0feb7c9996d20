use Rattle.support.proofs.PathTexts.{no_root, past_root}
use Rattle.support.proofs.paths.named.below_root.Goals as goal

pub returns-in_err-strip_prefix : goal.returns-in_err-strip_prefix
returns-in_err-strip_prefix c = no_root _ c.args.text.now _ c.from_residual.ensures c.in_err-strip_prefix.ensures.cases

pub returns : goal.returns
returns c = past_root _ c.args.text.now c.in_ok-strip_prefix.field-0 _ c.in_ok-strip_prefix.ensures.cases c.strip_prefix-2.ensures.cases
