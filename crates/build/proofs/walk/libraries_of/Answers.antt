use Rattle.std.proofs.Common.{arith, Bool, ◌≡◌, ◌<◌, List, ◌∷◌, [], ◌++◌, map, sym, ap, ◌∙◌, subst}
use Rattle.std.specs.Prelude.{flat_map}
use Rattle.build.specs.Libraries.{with_its_own}
use Rattle.build.specs.DeclaredTargetViews.{declared_target_views}
use Rattle.build.specs.Marks.{AreMarks}
use Rattle.build.specs.Sources.{list_with_dependencies}
use Rattle.build.specs.View.{target_view, build_view}
use Rattle.build.specs.Walk.{steps_for}
use Rattle.build.specs.declared.walk.Step.{Step}
use Rattle.build.specs.declared.walk.Step.TheVariants.{Enter}
use Rattle.build.proofs.Walking.{Walks, weights, walks_first, walks_step, weights_less}
use Rattle.build.proofs.walk.libraries_of.Goals as goal

pub loop-step-init : goal.loop-step-init
loop-step-init c =
    let ls = declared_target_views c.args.earlier.now in
    let ns = list_with_dependencies (λ k. k.link_with) (build_view c.args.target.now) in
    let all = flat_map (with_its_own ls) ns in
    let steps : c.push_all.new.steps.items ≡ map Enter ns = c.in_ok-push_all.ensures ∙ ap (λ l. l ++ map Enter ns) c.new-steps.ensures.items in
    record {
      walks = subst (λ (x : List Step). Walks ls all x c.new-kept.result.items) (sym steps)
          (subst (Walks ls all (map Enter ns)) (sym c.new-kept.ensures.items) (walks_first ls ns));
      marks = subst (λ (l : List Bool). AreMarks l c.new-kept.result.items) (sym c.new-marks.ensures.items) (λ k lt. absurd (omega (arith, lt)));
    }

pub loop-step-smaller : goal.loop-step-smaller
loop-step-smaller c =
    let ts = map (λ l. target_view l.target) c.args.earlier.now in
    let ls = declared_target_views c.args.earlier.now in
    let rest = c.pop.new.self.items in
    let step = c.in-Some.step in
    subst (λ (x : List Step). weights ls c.take_step.new.steps.items < weights ls x) (sym c.in-Some.ensures.items)
    (subst (λ (x : List Step). weights ls x < weights ls (rest ++ step ∷ [])) (sym c.in_ok-take_step.ensures.steps) (weights_less ts c.loop-step.kept.items rest step c.requires))

pub loop-step-preserved : goal.loop-step-preserved
loop-step-preserved c =
    let ts = map (λ l. target_view l.target) c.args.earlier.now in
    let ls = declared_target_views c.args.earlier.now in
    let all = flat_map (with_its_own ls) (list_with_dependencies (λ k. k.link_with) (build_view c.args.target.now)) in
    let rest = c.pop.new.self.items in
    let step = c.in-Some.step in
    let kept = c.loop-step.kept.items in
    record {
      walks = subst (λ (x : List Step). Walks ls all x c.take_step.new.kept.items) (sym c.in_ok-take_step.ensures.steps)
          (subst (Walks ls all (rest ++ steps_for ls kept step)) (sym c.in_ok-take_step.ensures.kept)
          (walks_step ts all rest step kept c.requires (subst (λ (x : List Step). Walks ls all x kept) c.in-Some.ensures.items c.loop-step.invariant.walks)));
      marks = c.in_ok-take_step.ensures.marks;
    }
