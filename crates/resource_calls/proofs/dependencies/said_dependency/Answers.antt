use Rattle.std.proofs.Common.{Option, ap, subst, ◌∙◌}
use Rattle.std.specs.Option.{option_transpose}
use Rattle.arguments.specs.Stops.{Gives}
use Rattle.machine_file.specs.Questions.{answer_to, dependency_topic}
use Rattle.machine_file.specs.View.{strings_in}
use Rattle.resources.specs.Fitting.{dependency_that_fits}
use Rattle.values.specs.declared.object.Dependency.{Dependency}
use Rattle.resource_calls.proofs.dependencies.said_dependency.Goals as goal

pub returns : goal.returns
returns c =
    let name = c.args.name.now in
    let topic = dependency_topic name in
    let machine = c.args.store.now.machine in
    let same : Option Dependency → Option Dependency = λ d. d in
    subst (λ o. Gives same (option_transpose o) c.dependency_that_fits.result)
    (ap (λ m. dependency_that_fits (strings_in c.deref.result.now) name (answer_to m topic)) c.machine.ensures
    ∙ ap (λ cs. dependency_that_fits (strings_in cs) name (answer_to machine topic)) c.deref.ensures.value
    ∙ ap (λ cs. dependency_that_fits cs name (answer_to machine topic)) c.in_ok-conditions.ensures)
    c.dependency_that_fits.ensures
