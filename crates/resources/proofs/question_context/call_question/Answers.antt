use Rattle.std.proofs.Common.{List, ap}
use Rattle.machine_file.specs.Questions.{Aside, Question}
use Rattle.machine_file.specs.QuestionsView.{topic_in}
use Rattle.resources.specs.Beside.{call_question}
use Rattle.resources.proofs.question_context.call_question.Goals as goal

pub returns : goal.returns
unfolding call_question
returns c = ap (λ (s : List Aside). let q : Question = record { topic = topic_in c.args.topic; asides = s } in q) c.in_ok-asides.ensures
