use Rattle.std.proofs.Common.{ap, subst, ◌∙◌}
use Rattle.arguments.specs.Arguments.{arguments_data}
use Rattle.machine_file.specs.Questions.{Question, answer_to}
use Rattle.resources.specs.Beside.{call_question}
use Rattle.world.specs.Answering.{Carries}
use Rattle.world.specs.Caller.{state_of}
use Rattle.world.specs.Deed.{consult}
use Rattle.world.proofs.Answering.{carries_none}
use Rattle.methods.proofs.compiler.checks.ask_check.Goals as goal

pub returns-in_err-topic-clause-deed : goal.returns-in_err-topic-clause-deed
returns-in_err-topic-clause-deed g c = carries_none c.from_residual.ensures.1

pub returns-in_err-question-clause-deed : goal.returns-in_err-question-clause-deed
returns-in_err-question-clause-deed g c = carries_none c.from_residual-in_err-question.ensures.1

pub returns-clause-deed : goal.returns-clause-deed
unfolding call_question
returns-clause-deed g c =
    subst (λ (q : Question). Carries (λ u. answer_to c.args.caller.now.store.now.machine q.topic) (consult q)
    (state_of g.T.Tree.seen g.O.Outputs.seen c.args.caller.now) c.ask.result (state_of g.T.Tree.seen g.O.Outputs.seen c.ask.new.self))
    (c.in_ok-question.ensures ∙ ap (λ t. call_question t (arguments_data c.args.arguments.now)) c.in_ok-topic.ensures) c.ask.ensures.deed
