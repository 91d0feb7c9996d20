use Rattle.machine_file.specs.QuestionsView.{question_in}
use Rattle.world.proofs.Answering.{carries_asked, carries_wanted}
use Rattle.world.proofs.Marks.{front_as}
use Rattle.world.proofs.caller.Caller.ask.Goals as goal

pub returns-in_err-ask-clause-deed : goal.returns-in_err-ask-clause-deed
returns-in_err-ask-clause-deed g c = carries_wanted c.from_residual.ensures.1 (front_as c.in_err-ask.ensures.names)

pub returns-clause-deed : goal.returns-clause-deed
returns-clause-deed g c = carries_asked (question_in c.args.question) c.in_ok-ask.ensures.world c.in_ok-ask.ensures.names
