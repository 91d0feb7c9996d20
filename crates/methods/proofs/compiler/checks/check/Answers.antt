use Rattle.std.proofs.Common.{refl}
use Rattle.world.proofs.Answering.{carries_give, carries_stop, carries_then}
use Rattle.methods.specs.CompilerChecks.{check}
use Rattle.methods.proofs.compiler.checks.check.Goals as goal

pub returns-in_err-is_so : goal.returns-in_err-is_so
unfolding check
returns-in_err-is_so g c = carries_stop c.in_err-is_so.ensures c.from_residual.ensures.1

pub returns : goal.returns
unfolding check
returns g c = carries_then c.in_ok-is_so.ensures (carries_give refl)
