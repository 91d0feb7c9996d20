use Rattle.std.proofs.Common.{ap, refl, sym}
use Rattle.world.proofs.Answering.{carries_as, carries_give, carries_stop, carries_then}
use Rattle.methods.specs.CompilerChecks.{required_as}
use Rattle.methods.proofs.compiler.checks.require_as.Goals as goal

pub returns-in_err-need-in-Required : goal.returns-in_err-need-in-Required
unfolding required_as
returns-in_err-need-in-Required g c =
    carries_as (ap (λ r. required_as r c.args.is_so c.args.name.now) (sym c.in-Required.is)) (carries_stop c.in_err-need-in-Required.ensures c.from_residual.ensures.1)

pub returns-in_ok-need-in-Required : goal.returns-in_ok-need-in-Required
unfolding required_as
returns-in_ok-need-in-Required g c =
    carries_as (ap (λ r. required_as r c.args.is_so c.args.name.now) (sym c.in-Required.is)) (carries_then c.in_ok-need-in-Required.ensures (carries_give refl))

pub returns-in-Optional : goal.returns-in-Optional
unfolding required_as
returns-in-Optional g c = carries_as (ap (λ r. required_as r c.args.is_so c.args.name.now) (sym c.in-Optional.is)) (carries_give refl)

pub returns-in-Disabled : goal.returns-in-Disabled
unfolding required_as
returns-in-Disabled g c = carries_as (ap (λ r. required_as r c.args.is_so c.args.name.now) (sym c.in-Disabled.is)) (carries_give refl)
