use Rattle.world.specs.Configuring.{add_configuration}
use Rattle.world.proofs.Answering.{carries_change, carries_give, carries_read, carries_then, carries_wanted}
use Rattle.world.proofs.Marks.{front_as}
use Rattle.world.proofs.caller.Caller.add_configuration.Goals as goal

pub returns-in_err-number : goal.returns-in_err-number
returns-in_err-number g c = carries_wanted c.from_residual.ensures.1 (front_as c.in_err-number.ensures.names)

pub returns : goal.returns
unfolding add_configuration
returns g c =
    carries_read (carries_then {x = tt {0}} (carries_change {view = λ u. u} c.in_ok-number.ensures.world c.in_ok-number.ensures.names) (carries_give c.in_ok-number.ensures.number))
