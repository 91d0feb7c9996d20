use Rattle.std.proofs.Common.{◌∙◌, sym, ap}
use Rattle.options.specs.option_file.View.{options_in}
use Rattle.options.specs.Resolves.{next}
use Rattle.options.specs.Verdicts.{of_project_default}
use Rattle.options.specs.View.{default_in, state_in}
use Rattle.options.proofs.Folds.{seen_more, rest_of_seen}
use Rattle.options.proofs.place.take_defaults.Goals as goal

pub returns-then-is_refused : goal.returns-then-is_refused
returns-then-is_refused c = rest_of_seen default_in (of_project_default (options_in c.args.known.now.declared.now))
    (state_in c.args.state.now) (state_in c.loop-default.state)
    c.args.defaults.now c.loop-default.default-index c.loop-default.invariant (sym c.is_refused.ensures ∙ c.if-is_refused.true)

pub loop-default-preserved : goal.loop-default-preserved
loop-default-preserved c =
    let f = of_project_default (options_in c.args.known.now.declared.now) in
    seen_more default_in f (state_in c.args.state.now) _ _ c.args.defaults.now c.loop-default.default-index _
    (c.in_ok-next.ensures
    ∙ ap (next (state_in c.loop-default.state)) c.in_ok-verdict.ensures) c.loop-default.invariant c.loop-default-test.true
