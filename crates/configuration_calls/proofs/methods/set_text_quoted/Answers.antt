use Rattle.std.proofs.Common.{refl, ap}
use Rattle.world.specs.Configuring.{set_quoted}
use Rattle.world.proofs.Answering.{carries_as, carries_give, carries_stop, carries_then}
use Rattle.configuration_calls.specs.Methods.{set_text_quoted}
use Rattle.configuration_calls.proofs.methods.set_text_quoted.Goals as goal

pub returns-in_err-name : goal.returns-in_err-name
unfolding set_text_quoted
returns-in_err-name g c = carries_stop c.in_err-name.ensures c.from_residual.ensures.1

pub returns-in_err-set_quoted : goal.returns-in_err-set_quoted
unfolding set_text_quoted
returns-in_err-set_quoted g c =
    carries_then c.in_ok-name.ensures (carries_stop (carries_as (ap (set_quoted c.args.number c.in_ok-name.name.now) c.text_at.ensures) c.in_err-set_quoted.ensures) c.from_residual-in_err-set_quoted.ensures.1)

pub returns : goal.returns
unfolding set_text_quoted
returns g c =
    carries_then c.in_ok-name.ensures (carries_then (carries_as (ap (set_quoted c.args.number c.in_ok-name.name.now) c.text_at.ensures) c.in_ok-set_quoted.ensures) (carries_give refl))
