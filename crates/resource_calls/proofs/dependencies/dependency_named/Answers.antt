use Rattle.std.proofs.Common.{Option, ap, refl, subst, sym, ◌∙◌}
use Rattle.std.specs.Prelude.{codes}
use Rattle.std.specs.Option.{option_transpose}
use Rattle.arguments.specs.Arguments.{arguments_data}
use Rattle.arguments.specs.Given.{texts}
use Rattle.arguments.specs.Stops.{Gives}
use Rattle.machine_file.specs.Questions.{answer_to, dependency_topic}
use Rattle.resources.specs.Beside.{call_question}
use Rattle.resources.specs.Fitting.{dependency_that_fits}
use Rattle.values.specs.declared.object.Dependency.{Dependency}
use Rattle.world.proofs.Answering.{carries_as, carries_give, carries_none, carries_stop, carries_then}
use Rattle.world.proofs.Settling.{carries_given}
use Rattle.resource_calls.specs.Dependency.{ask_dependency}
use Rattle.resource_calls.proofs.Looking.{named_none, named_some}
use Rattle.resource_calls.proofs.Asking.{asked_as}
use Rattle.resource_calls.proofs.dependencies.dependency_named.Goals as goal

pub returns-then-is_empty : goal.returns-then-is_empty
returns-then-is_empty g c = carries_as (sym (named_none c.args.name.now (arguments_data c.args.arguments.now) (sym c.if-is_empty.ensures))) (carries_give refl)

pub returns-in_err-topic : goal.returns-in_err-topic
returns-in_err-topic g c = carries_none c.from_residual.ensures.1

pub returns-in_err-question : goal.returns-in_err-question
returns-in_err-question g c = carries_none c.from_residual-in_err-question.ensures.1

pub returns-in_err-ask : goal.returns-in_err-ask
unfolding ask_dependency call_question
returns-in_err-ask g c =
    let a = arguments_data c.args.arguments.now in
    carries_as (sym (named_some c.args.name.now a (sym c.if-is_empty.ensures)))
    (carries_stop (asked_as c.args.caller.now.store.now.machine (c.in_ok-question.ensures ∙ ap (λ t. call_question t a) c.in_ok-topic.ensures)
    c.in_err-ask.ensures.deed) c.from_residual-in_err-ask.ensures.1)

pub returns : goal.returns
unfolding ask_dependency call_question
returns g c =
    let name = c.args.name.now in
    let a = arguments_data c.args.arguments.now in
    let same : Option Dependency → Option Dependency = λ d. d in
    carries_as (sym (named_some name a (sym c.if-is_empty.ensures)))
    (carries_then (asked_as c.args.caller.now.store.now.machine (c.in_ok-question.ensures ∙ ap (λ t. call_question t a) c.in_ok-topic.ensures)
    c.in_ok-ask.ensures.deed) (carries_given {view = same} _ c.said_dependency-said.result
    (subst (λ m. Gives same (option_transpose (dependency_that_fits (texts (codes "version") a) name (answer_to m (dependency_topic name))))
    c.said_dependency-said.result) c.in_ok-ask.ensures.machine c.said_dependency-said.ensures) c.settle.ensures))
