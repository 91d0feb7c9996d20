use Rattle.std.proofs.Common.{refl}
use Rattle.world.proofs.Answering.{carries_give, carries_stop, carries_then}
use Rattle.project_calls.specs.Programs.{programs}
use Rattle.project_calls.proofs.programs.ask_programs.Goals as goal

pub returns-in_err-compiler : goal.returns-in_err-compiler
unfolding programs
returns-in_err-compiler g c = carries_stop c.in_err-compiler.ensures c.from_residual.ensures.1

pub returns-in_err-archiver : goal.returns-in_err-archiver
unfolding programs
returns-in_err-archiver g c =
    carries_then c.in_ok-compiler.ensures (carries_stop c.in_err-archiver.ensures c.from_residual-in_err-archiver.ensures.1)

pub returns : goal.returns
unfolding programs
returns g c = carries_then c.in_ok-compiler.ensures (carries_then c.in_ok-archiver.ensures (carries_give refl))
