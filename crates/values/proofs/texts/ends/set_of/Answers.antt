use Rattle.std.proofs.Common.{nat_eq}
use Rattle.std.specs.HashSet.{IsFromIterResult}
use Rattle.std.proofs.lemmas.Iterator.{YieldsList-from_chars}
use Rattle.std.proofs.lemmas.Iterator.Adapters.{fact_from_collect}
use Rattle.values.proofs.texts.ends.set_of.Goals as goal

pub returns : goal.returns
returns c = fact_from_collect (IsFromIterResult nat_eq) c.collect.result c.collect.ensures.ran
    (YieldsList-from_chars c.args.text.now c.utf8.text cc)
