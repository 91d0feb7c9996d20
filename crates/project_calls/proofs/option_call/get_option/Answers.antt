use Rattle.std.proofs.Common.{ap, refl, ◌∙◌}
use Rattle.option_values.specs.Settings.{value_named}
use Rattle.world.proofs.Answering.{carries_as, carries_give, carries_read, carries_refuse, carries_stop, carries_then}
use Rattle.world.proofs.Settling.{carries_given}
use Rattle.project_calls.specs.GetOption.{get_option, given_option}
use Rattle.project_calls.proofs.option_call.get_option.Goals as goal

pub returns-in-None : goal.returns-in-None
unfolding get_option given_option
returns-in-None g c =
    carries_read (carries_as (ap (given_option c.text_at-name.result.now) c.in-None.ensures
    ∙ ap (λ n. given_option n (value_named c.args.caller.now.store.now.options n)) c.text_at-name.ensures) (carries_refuse c.refuse_for.ensures))

pub returns-in_err-value-in-Some : goal.returns-in_err-value-in-Some
unfolding get_option given_option
returns-in_err-value-in-Some g c =
    carries_read (carries_as (ap (given_option c.text_at-name.result.now) c.in-Some.ensures
    ∙ ap (λ n. given_option n (value_named c.args.caller.now.store.now.options n)) c.text_at-name.ensures)
    (carries_stop (carries_given _ _ c.as_data.ensures c.in_err-value-in-Some.ensures) c.from_residual.ensures.1))

pub returns-in_ok-value-in-Some : goal.returns-in_ok-value-in-Some
unfolding get_option given_option
returns-in_ok-value-in-Some g c =
    carries_read (carries_as (ap (given_option c.text_at-name.result.now) c.in-Some.ensures
    ∙ ap (λ n. given_option n (value_named c.args.caller.now.store.now.options n)) c.text_at-name.ensures)
    (carries_then {x = c.in_ok-value-in-Some.value} (carries_given _ _ c.as_data.ensures c.in_ok-value-in-Some.ensures) (carries_give refl)))
