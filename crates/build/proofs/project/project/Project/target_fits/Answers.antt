use Rattle.std.proofs.Common.{◌≡◌, sym, ap, ◌∙◌}
use Rattle.std.proofs.lemmas.Result.{IfOk-weaker}
use Rattle.build.specs.Libraries.{linked_of}
use Rattle.build.specs.DeclaredTargetViews.{declared_target_views}
use Rattle.build.specs.View.{build_view, target_view}
use Rattle.build.specs.project.World.{WorldData}
use Rattle.build.specs.project.Adding.{build_fits, target_fits}
use Rattle.build.proofs.project.project.Project.target_fits.Goals as goal

pub returns-in-Build : goal.returns-in-Build
returns-in-Build c =
    let t = build_view c.deref-in-Build.result.now in
    let ls = linked_of c.args.self.now.targets in
    let all : declared_target_views c.deref.result.now ≡ ls = ap declared_target_views c.deref.ensures.value ∙ c.self.invariant.libraries ∙ ap (λ (x : WorldData). linked_of x.targets) c.self.view_is in
    IfOk-weaker c.build_fits.result (λ fit. fit ≡ build_fits (declared_target_views c.deref.result.now) t) (λ fit. fit ≡ target_fits ls (target_view c.args.target.now))
    (λ fit e. e ∙ ap (λ k. build_fits k t) all ∙ ap (λ x. build_fits ls (build_view x)) c.deref-in-Build.ensures
    ∙ ap (λ x. target_fits ls (target_view x)) (sym c.in-Build.is)) c.build_fits.ensures
