use Rattle.std.proofs.Common.{ap, codes}
use Rattle.std.specs.Prelude.{not}
use Rattle.support.specs.declared.faults.refusal.Refusal.TheVariants as refusals
use Rattle.world.specs.Deed.{need}
use Rattle.world.proofs.Answering.{carries_as}
use Rattle.interp.specs.Functions.{without_disabler}
use Rattle.interp.proofs.functions.refuse_disabler.Goals as goal

pub returns : goal.returns
unfolding without_disabler
returns g c =
    carries_as (ap (λ b. need (not b) refusals.Arguments (codes "arguments: takes no disabler")) c.has_unwanted_disabler-unwanted.ensures)
    c.need.ensures
