use Rattle.world.proofs.Answering.{carries_as, carries_stop, carries_then}
use Rattle.methods.specs.CompilerChecks.{checked_for}
use Rattle.methods.proofs.compiler.checks.check_for.Goals as goal

pub returns-in_err-is_so : goal.returns-in_err-is_so
unfolding checked_for
returns-in_err-is_so g c = carries_stop c.in_err-is_so.ensures c.from_residual.ensures.1

pub returns : goal.returns
unfolding checked_for
returns g c = carries_then c.in_ok-is_so.ensures (carries_as (cc (c.requirement-requirement.ensures, c.text_at.ensures)) c.require_as.ensures)
