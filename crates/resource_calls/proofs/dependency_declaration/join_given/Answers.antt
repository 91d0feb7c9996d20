use Rattle.std.proofs.Common.{ap, subst, ◌∙◌}
use Rattle.arguments.specs.Arguments.{arguments_data}
use Rattle.arguments.specs.Stops.{Gives}
use Rattle.build.specs.project.World.{WorldData}
use Rattle.build.specs.Data.{FactsData}
use Rattle.values.specs.declared.object.Dependency.{Dependency}
use Rattle.world.proofs.Values.{two}
use Rattle.world.proofs.Answering.{carries_read}
use Rattle.world.proofs.Settling.{carries_given}
use Rattle.resource_calls.specs.DeclareDependency.{joined_given}
use Rattle.resource_calls.specs.JoinedLists.{joined_dependency}
use Rattle.resource_calls.specs.OwnListsView.{own_view}
use Rattle.world.specs.Here.{HereData}
use Rattle.resource_calls.proofs.dependency_declaration.join_given.Goals as goal

pub returns : goal.returns
unfolding joined_given
returns g c =
    let version = c.as_str-version.ensures.value ∙ ap (λ (f : FactsData). f.version) c.facts.ensures
    ∙ ap (λ (p : WorldData). p.surroundings.facts.version) c.project.ensures in
    let earlier = ap (λ (p : HereData). p.earlier) c.here-here.ensures in
    let same : Dependency → Dependency = λ d. d in
    let joined = two (λ v e. joined_dependency v e (arguments_data c.args.arguments.now) (own_view c.args.own.now)) version earlier in
    carries_read (carries_given {view = same} _ c.joined_dependency.result
    (subst (λ d. Gives same d c.joined_dependency.result) joined c.joined_dependency.ensures) c.settle.ensures)
