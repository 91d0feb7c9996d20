use Rattle.std.proofs.Common.{ap, subst, ◌∙◌}
use Rattle.machine_file.specs.Questions.{Question, answer_to, question_about}
use Rattle.world.specs.Answering.{Carries}
use Rattle.world.specs.Caller.{state_of}
use Rattle.world.specs.Deed.{consult}
use Rattle.world.proofs.Answering.{carries_none}
use Rattle.methods.specs.CompilerSaid.{argument_topic}
use Rattle.methods.proofs.compiler.dispatch.ask_argument.Goals as goal

pub returns-in_err-topic-clause-deed : goal.returns-in_err-topic-clause-deed
returns-in_err-topic-clause-deed g c = carries_none c.from_residual.ensures.1

pub returns-clause-deed : goal.returns-clause-deed
returns-clause-deed g c =
    subst (λ (q : Question). Carries (λ u. answer_to c.args.caller.now.store.now.machine q.topic) (consult q)
    (state_of g.T.Tree.seen g.O.Outputs.seen c.args.caller.now) c.ask.result (state_of g.T.Tree.seen g.O.Outputs.seen c.ask.new.self))
    (c.about.ensures ∙ ap question_about (c.in_ok-topic.ensures ∙ ap argument_topic c.text_of.ensures)) c.ask.ensures.deed
