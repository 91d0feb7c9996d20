use Rattle.std.proofs.Common.{List, ℕ, sym, ap, ◌∙◌}
use Rattle.build.specs.project.Adding.{is_fit}
use Rattle.build.specs.project.World.{WorldData}
use Rattle.build.specs.View.{target_view}
use Rattle.world.specs.Ruled.{obeyed_rule}
use Rattle.world.specs.Store.{world_of}
use Rattle.world.proofs.Answering.{carries_as, carries_none, carries_read, need_no, need_yes}
use Rattle.target_calls.specs.FitBreaches.{Breach, fit_breach}
use Rattle.target_calls.specs.Targets.{required_fit}
use Rattle.target_calls.proofs.build_target_calls.require_fit.Goals as goal

pub returns-in_err-fits : goal.returns-in_err-fits
returns-in_err-fits g c = carries_none c.from_residual.ensures.1

pub returns-then-fits : goal.returns-then-fits
unfolding required_fit obeyed_rule
returns-then-fits g c =
    let fits = c.in_ok-fits.ensures ∙ ap (λ (p : WorldData). is_fit p (target_view c.args.target.now)) c.project-project.ensures in
    carries_read (need_yes _ _ _ (sym fits ∙ c.if-fits.true))

pub returns-in_err-breach : goal.returns-in_err-breach
returns-in_err-breach g c = carries_none c.from_residual-in_err-breach.ensures.1

pub returns-in_ok-breach : goal.returns-in_ok-breach
unfolding required_fit obeyed_rule
returns-in_ok-breach g c =
    let t = target_view c.args.target.now in
    let p = (world_of c.args.caller.now.store.now).facts.project in
    let fits = c.in_ok-fits.ensures ∙ ap (λ (p : WorldData). is_fit p t) c.project-project.ensures in
    let rule = c.in_ok-breach.breach.0 in
    let breach = ap (λ (x : List ℕ). (rule, x)) c.as_str.ensures.value ∙ c.in_ok-breach.ensures
    ∙ ap (λ (p : WorldData). fit_breach p t) c.project-project.ensures in
    carries_read (carries_as (ap (λ (b : Breach). obeyed_rule (is_fit p t) b.0 b.1) breach)
    (need_no _ _ _ (sym fits ∙ c.if-fits.false) c.refuse_by.ensures))
