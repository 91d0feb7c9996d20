use Rattle.std.proofs.Common.{refl}
use Rattle.language_calls.specs.Range.{range}
use Rattle.world.proofs.Answering.{carries_give, carries_stop, carries_then}
use Rattle.world.proofs.Settling.{carries_given_by}
use Rattle.language_calls.proofs.ranges.range.Goals as goal

pub returns-in_err-value : goal.returns-in_err-value
unfolding range
returns-in_err-value g c =
    carries_stop (carries_given_by _ _ _ _ c.range_of.ensures c.in_err-value.ensures) c.from_residual.ensures.1

pub returns : goal.returns
unfolding range
returns g c =
    carries_then {x = c.in_ok-value.value} (carries_given_by _ _ _ _ c.range_of.ensures c.in_ok-value.ensures) (carries_give refl)
