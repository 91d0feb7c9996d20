use Rattle.std.proofs.Common.{ap, refl, ◌∙◌}
use Rattle.arguments.specs.Arguments.{arguments_data}
use Rattle.world.specs.Fit.{fit}
use Rattle.world.specs.Ruled.{answered_by}
use Rattle.world.specs.Store.{world_of}
use Rattle.world.proofs.Answering.{carries_as, carries_give, carries_read, carries_stop, carries_then}
use Rattle.world.proofs.Settling.{carries_given_by}
use Rattle.methods.specs.Methods.{rule_of, tell, told_of}
use Rattle.methods.proofs.dispatch.tell.Goals as goal

pub returns-in_err-fit : goal.returns-in_err-fit
unfolding tell
returns-in_err-fit g c =
    carries_stop (carries_as (ap (λ r. fit r (arguments_data c.args.arguments.now)) c.row_of-row.ensures) c.in_err-fit.ensures)
    c.from_residual.ensures.1

pub returns-in_err-value : goal.returns-in_err-value
unfolding tell
returns-in_err-value g c =
    let told = told_of (world_of c.args.caller.now.store.now).facts c.args.object.now c.args.name.now (arguments_data c.args.arguments.now) in
    carries_then (carries_as (ap (λ r. fit r (arguments_data c.args.arguments.now)) c.row_of-row.ensures) c.in_ok-fit.ensures)
    (carries_read (carries_stop (carries_as
    (ap (λ r. answered_by r c.breaking-text.result.now told) c.rule_of.ensures
    ∙ ap (λ t. answered_by (rule_of c.args.object.now) t told) c.breaking-text.ensures)
    (carries_given_by _ _ _ _ c.tell_of-answer.ensures c.in_err-value.ensures)) c.from_residual-in_err-value.ensures.1))

pub returns : goal.returns
unfolding tell
returns g c =
    let told = told_of (world_of c.args.caller.now.store.now).facts c.args.object.now c.args.name.now (arguments_data c.args.arguments.now) in
    carries_then (carries_as (ap (λ r. fit r (arguments_data c.args.arguments.now)) c.row_of-row.ensures) c.in_ok-fit.ensures)
    (carries_read (carries_then {x = c.in_ok-value.value} (carries_as
    (ap (λ r. answered_by r c.breaking-text.result.now told) c.rule_of.ensures
    ∙ ap (λ t. answered_by (rule_of c.args.object.now) t told) c.breaking-text.ensures)
    (carries_given_by _ _ _ _ c.tell_of-answer.ensures c.in_ok-value.ensures)) (carries_give refl)))
