use Rattle.std.proofs.Common.{Some, ap, ◌∙◌}
use Rattle.values.specs.Data.{object}
use Rattle.values.specs.declared.object.Object.TheVariants as objects
use Rattle.world.proofs.Answering.{carries_as, carries_give, carries_none, carries_stop, carries_then}
use Rattle.arguments.specs.Arguments.{arguments_data}
use Rattle.target_calls.specs.CustomCalls.{custom_target}
use Rattle.target_calls.specs.Files.{all_required}
use Rattle.target_calls.proofs.StandingDeeds.{carries_custom, carries_declaring, carries_fit, carries_unsaid}
use Rattle.target_calls.proofs.custom_call.custom_target.Goals as goal

pub returns-in_err-named : goal.returns-in_err-named
unfolding custom_target
returns-in_err-named g c =
    carries_stop (carries_unsaid (arguments_data c.args.arguments.now) c.declare_custom.result c.declare_custom.ensures c.here.ensures c.in_err-named.ensures)
    c.from_residual.ensures.1

pub returns-in_err-require_fit : goal.returns-in_err-require_fit
unfolding custom_target
returns-in_err-require_fit g c =
    carries_declaring (arguments_data c.args.arguments.now) c.declare_custom.result c.in_ok-named.named c.declare_custom.ensures c.here.ensures c.in_ok-named.ensures
    (λ d alike. carries_stop (carries_fit alike.target c.in_err-require_fit.ensures) c.from_residual-in_err-require_fit.ensures.1)

pub returns-in_err-require_all : goal.returns-in_err-require_all
unfolding custom_target
returns-in_err-require_all g c =
    carries_declaring (arguments_data c.args.arguments.now) c.declare_custom.result c.in_ok-named.named c.declare_custom.ensures c.here.ensures c.in_ok-named.ensures
    (λ d alike. carries_then (carries_fit alike.target c.in_ok-require_fit.ensures)
    (carries_stop (carries_as (ap all_required alike.files) c.in_err-require_all.ensures) c.from_residual-in_err-require_all.ensures.1))

pub returns-in_err-number : goal.returns-in_err-number
unfolding custom_target
returns-in_err-number g c =
    carries_declaring (arguments_data c.args.arguments.now) c.declare_custom.result c.in_ok-named.named c.declare_custom.ensures c.here.ensures c.in_ok-named.ensures
    (λ d alike. carries_then (carries_fit alike.target c.in_ok-require_fit.ensures)
    (carries_then (carries_as (ap all_required alike.files) c.in_ok-require_all.ensures)
    (carries_stop (carries_custom (arguments_data c.args.arguments.now) alike.target c.in_err-number.ensures) c.from_residual-in_err-number.ensures.1)))

pub returns-in_err-value : goal.returns-in_err-value
unfolding custom_target
returns-in_err-value g c =
    carries_declaring (arguments_data c.args.arguments.now) c.declare_custom.result c.in_ok-named.named c.declare_custom.ensures c.here.ensures c.in_ok-named.ensures
    (λ d alike. carries_then (carries_fit alike.target c.in_ok-require_fit.ensures)
    (carries_then (carries_as (ap all_required alike.files) c.in_ok-require_all.ensures)
    (carries_then {x = c.in_ok-number.number} (carries_custom (arguments_data c.args.arguments.now) alike.target c.in_ok-number.ensures)
    (carries_none c.from_residual-in_err-value.ensures.1))))

pub returns : goal.returns
unfolding custom_target
returns g c =
    carries_declaring (arguments_data c.args.arguments.now) c.declare_custom.result c.in_ok-named.named c.declare_custom.ensures c.here.ensures c.in_ok-named.ensures
    (λ d alike. carries_then (carries_fit alike.target c.in_ok-require_fit.ensures)
    (carries_then (carries_as (ap all_required alike.files) c.in_ok-require_all.ensures)
    (carries_then {x = c.in_ok-number.number} (carries_custom (arguments_data c.args.arguments.now) alike.target c.in_ok-number.ensures)
    (carries_give (ap Some (c.in_ok-value.ensures ∙ ap (λ k. object (objects.CustomTarget c.in_ok-number.number k)) c.count_named-outputs.ensures))))))
