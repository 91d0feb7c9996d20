use Rattle.arguments.specs.Arguments.{arguments_data}
use Rattle.arguments.specs.Misfits.{arguments_check}
use Rattle.arguments.specs.RowView.{row_data}
use Rattle.world.specs.Fit.{fit}
use Rattle.world.proofs.Answering.{carries_none}
use Rattle.world.proofs.Ruling.{carries_passed}
use Rattle.world.proofs.caller.Caller.fit.Goals as goal

pub returns-in_err-answer : goal.returns-in_err-answer
returns-in_err-answer g c = carries_none c.from_residual.ensures.1

pub returns : goal.returns
unfolding fit
returns g c = carries_passed {view = λ (u : Unit {0}). u} (arguments_check (row_data c.args.row.now) (arguments_data c.args.arguments.now)) c.in_ok-answer.answer
    c.in_ok-answer.ensures c.pass.ensures
