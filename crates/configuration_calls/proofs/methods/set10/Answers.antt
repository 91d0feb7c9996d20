use Rattle.std.proofs.Common.{refl, ap, ◌∙◌}
use Rattle.world.specs.Configuring.{set_configured}
use Rattle.world.proofs.Answering.{carries_as, carries_give, carries_stop, carries_then}
use Rattle.configuration_calls.specs.Methods.{one_or_zero, set10}
use Rattle.configuration_calls.proofs.methods.set10.Goals as goal

pub returns-in_err-name : goal.returns-in_err-name
unfolding set10
returns-in_err-name g c = carries_stop c.in_err-name.ensures c.from_residual.ensures.1

pub returns-in_err-set_configured : goal.returns-in_err-set_configured
unfolding set10
returns-in_err-set_configured g c =
    let given = ap (set_configured c.args.number c.in_ok-name.name.now) (c.one_or_zero-content.ensures ∙ ap one_or_zero c.flag_at.ensures) in
    carries_then c.in_ok-name.ensures (carries_stop (carries_as given c.in_err-set_configured.ensures) c.from_residual-in_err-set_configured.ensures.1)

pub returns : goal.returns
unfolding set10
returns g c =
    let given = ap (set_configured c.args.number c.in_ok-name.name.now) (c.one_or_zero-content.ensures ∙ ap one_or_zero c.flag_at.ensures) in
    carries_then c.in_ok-name.ensures (carries_then (carries_as given c.in_ok-set_configured.ensures) (carries_give refl))
