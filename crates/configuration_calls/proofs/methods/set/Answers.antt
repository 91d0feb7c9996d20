use Rattle.std.proofs.Common.{refl}
use Rattle.world.proofs.Answering.{carries_give, carries_stop, carries_then}
use Rattle.configuration_calls.specs.Methods.{set}
use Rattle.configuration_calls.proofs.methods.set.Goals as goal

pub returns-in_err-name : goal.returns-in_err-name
unfolding set
returns-in_err-name g c = carries_stop c.in_err-name.ensures c.from_residual.ensures.1

pub returns-in_err-content : goal.returns-in_err-content
unfolding set
returns-in_err-content g c = carries_then c.in_ok-name.ensures (carries_stop c.in_err-content.ensures c.from_residual-in_err-content.ensures.1)

pub returns-in_err-set_configured : goal.returns-in_err-set_configured
unfolding set
returns-in_err-set_configured g c =
    carries_then c.in_ok-name.ensures (carries_then c.in_ok-content.ensures (carries_stop c.in_err-set_configured.ensures c.from_residual-in_err-set_configured.ensures.1))

pub returns : goal.returns
unfolding set
returns g c = carries_then c.in_ok-name.ensures (carries_then c.in_ok-content.ensures (carries_then c.in_ok-set_configured.ensures (carries_give refl)))
