use Rattle.std.proofs.Common.{◌∙◌}
use Rattle.values.specs.texts.Strip.{is_in, is_among}
use Rattle.values.specs.declared.texts.ends.Set.TheVariants as set
use Rattle.values.proofs.StripLemmas.{stripped-same}
use Rattle.values.proofs.texts.ends.strip_of.Goals as goal

pub returns : goal.returns
returns c =
    c.without_both.ensures ∙ stripped-same (is_in (set.Given c.in_ok-given.given)) (is_among c.args.set.now)
    (λ q. c.in_ok-given.ensures.0 q) c.args.text.now
