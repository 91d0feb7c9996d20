use Rattle.std.proofs.Common.{◌≡◌, List, Ok, Err, map, ap, sym, subst, ◌∙◌}
use Rattle.std.specs.Result.{result_from_control_flow}
use Rattle.arguments.specs.Stops.{Gives}
use Rattle.build.specs.DeclaredTargetViews.{declared_target_views}
use Rattle.build.specs.edge.Texts.{texts}
use Rattle.sources.specs.SourcesView.{named_view}
use Rattle.support.specs.ResultSteps.{◌>>=◌}
use Rattle.values.specs.Copies.{within_texts}
use Rattle.values.specs.declared.object.Dependency.{Dependency}
use Rattle.values.specs.declared.object.Source.{Source}
use Rattle.resource_calls.specs.JoinedLists.{sources_within, with_own}
use Rattle.resource_calls.specs.OwnListsView.{own_view}
use Rattle.resource_calls.proofs.Stopping.{gives_stop}
use Rattle.resource_calls.proofs.joined_lists.own_dependency.Goals as goal

pub returns-in_err-sources : goal.returns-in_err-sources
returns-in_err-sources c =
    let own = own_view c.args.own.now in
    let dependency = c.in_ok-dependency.dependency in
    let folders = c.in_ok-folders.folders in
    let same : Dependency → Dependency = λ d. d in
    let sources : List Source → List Source = λ ss. ss in
    let within : within_texts own.folders ≡ Ok folders =
    ap (λ fs. within_texts (texts fs)) (sym c.deref.ensures.value) ∙ sym c.in_ok-within_texts.ensures ∙ c.branch-folders.ensures
    ∙ ap result_from_control_flow c.in_ok-folders.is in
    let named = sources_within (declared_target_views c.args.here.now.earlier.now) own.sources in
    let steps = λ (d : Dependency). within_texts own.folders >>= (λ fs. named >>= (λ ss. Ok (with_own d fs own.libraries ss))) in
    let same_steps = ap (λ r. r >>= steps) c.in_ok-dependency.ensures ∙ ap (λ r. r >>= (λ fs. named >>= (λ ss. Ok (with_own dependency fs own.libraries ss)))) within in
    let stopped = subst (λ ns. Gives sources (sources_within (declared_target_views c.args.here.now.earlier.now) (map named_view ns)) (Err c.in_err-sources.field-0.0))
    c.deref-2.ensures.value c.in_err-sources.ensures in
    subst (λ g. Gives same g c.from_residual-in_err-sources.result) (sym same_steps)
    (gives_stop sources same named (λ ss. Ok (with_own dependency folders own.libraries ss)) c.in_err-sources.field-0.0
    c.from_residual-in_err-sources.result c.from_residual-in_err-sources.ensures.1 stopped)
