use Rattle.std.proofs.Common.{ℕ, Err, Some, ap, refl}
use Rattle.world.proofs.Answering.{carries_as, carries_give, carries_none, carries_read, carries_stop, carries_then}
use Rattle.world.proofs.Settling.{carries_says_of}
use Rattle.arguments.specs.Arguments.{arguments_data}
use Rattle.world.specs.Here.{here_of}
use Rattle.target_calls.specs.Installs.{noted_install}
use Rattle.target_calls.specs.Targets.{add_installed, declare, target_of_arguments}
use Rattle.target_calls.specs.BuildTargets.{declared_target}
use Rattle.target_calls.specs.BuildTargetsView.{named_target_view}
use Rattle.target_calls.proofs.build_target_calls.declare.Goals as goal

pub returns-in_err-named : goal.returns-in_err-named
unfolding declare target_of_arguments
returns-in_err-named g c = carries_stop (carries_says_of {view = named_target_view} (λ h. declared_target h c.args.kind (arguments_data c.args.arguments.now)) here_of c.declare_target.result
    c.declare_target.ensures c.here.ensures c.in_err-named.ensures) c.from_residual.ensures.1

pub returns-in_err-require_fit : goal.returns-in_err-require_fit
unfolding declare target_of_arguments
returns-in_err-require_fit g c =
    carries_then {x = c.in_ok-named.named} (carries_says_of {view = named_target_view} (λ h. declared_target h c.args.kind (arguments_data c.args.arguments.now)) here_of c.declare_target.result
    c.declare_target.ensures c.here.ensures c.in_ok-named.ensures) (carries_stop c.in_err-require_fit.ensures c.from_residual-in_err-require_fit.ensures.1)

pub returns-in_err-require_all : goal.returns-in_err-require_all
unfolding declare target_of_arguments
returns-in_err-require_all g c =
    carries_then {x = c.in_ok-named.named} (carries_says_of {view = named_target_view} (λ h. declared_target h c.args.kind (arguments_data c.args.arguments.now)) here_of c.declare_target.result
    c.declare_target.ensures c.here.ensures c.in_ok-named.ensures) (carries_then c.in_ok-require_fit.ensures
    (carries_stop c.in_err-require_all.ensures
    c.from_residual-in_err-require_all.ensures.1))

pub returns-in_err-install : goal.returns-in_err-install
unfolding declare target_of_arguments add_installed
returns-in_err-install g c =
    carries_then {x = c.in_ok-named.named} (carries_says_of {view = named_target_view} (λ h. declared_target h c.args.kind (arguments_data c.args.arguments.now)) here_of c.declare_target.result
    c.declare_target.ensures c.here.ensures c.in_ok-named.ensures) (carries_then c.in_ok-require_fit.ensures
    (carries_then c.in_ok-require_all.ensures
    (carries_none c.from_residual-in_err-install.ensures.1)))

pub returns-in_err-number : goal.returns-in_err-number
unfolding declare target_of_arguments add_installed
returns-in_err-number g c =
    carries_then {x = c.in_ok-named.named} (carries_says_of {view = named_target_view} (λ h. declared_target h c.args.kind (arguments_data c.args.arguments.now)) here_of c.declare_target.result
    c.declare_target.ensures c.here.ensures c.in_ok-named.ensures) (carries_then c.in_ok-require_fit.ensures
    (carries_then c.in_ok-require_all.ensures
    (carries_stop {view = λ (n : ℕ). n} (carries_read (carries_stop {result = Err c.in_err-number.field-0.0} c.in_err-number.ensures refl)) c.from_residual-in_err-number.ensures.1)))

pub returns-in_err-note : goal.returns-in_err-note
unfolding declare target_of_arguments add_installed
returns-in_err-note g c =
    carries_then {x = c.in_ok-named.named} (carries_says_of {view = named_target_view} (λ h. declared_target h c.args.kind (arguments_data c.args.arguments.now)) here_of c.declare_target.result
    c.declare_target.ensures c.here.ensures c.in_ok-named.ensures) (carries_then c.in_ok-require_fit.ensures
    (carries_then c.in_ok-require_all.ensures
    (carries_stop {view = λ (n : ℕ). n} (carries_read (carries_then {x = c.in_ok-number.number} c.in_ok-number.ensures
    (carries_stop {result = Err c.in_err-note.field-0.0} (carries_as (ap noted_install c.in_ok-install.ensures) c.in_err-note.ensures) refl))) c.from_residual-in_err-note.ensures.1)))

pub returns-in_err-value : goal.returns-in_err-value
unfolding declare target_of_arguments add_installed
returns-in_err-value g c =
    carries_then {x = c.in_ok-named.named} (carries_says_of {view = named_target_view} (λ h. declared_target h c.args.kind (arguments_data c.args.arguments.now)) here_of c.declare_target.result
    c.declare_target.ensures c.here.ensures c.in_ok-named.ensures) (carries_then c.in_ok-require_fit.ensures
    (carries_then c.in_ok-require_all.ensures
    (carries_then {view = λ (n : ℕ). n} {x = c.in_ok-number.number} (carries_read (carries_then {x = c.in_ok-number.number} c.in_ok-number.ensures
    (carries_then (carries_as (ap noted_install c.in_ok-install.ensures) c.in_ok-note.ensures) (carries_give refl))))
    (carries_none c.from_residual-in_err-value.ensures.1))))

pub returns : goal.returns
unfolding declare target_of_arguments add_installed
returns g c =
    carries_then {x = c.in_ok-named.named} (carries_says_of {view = named_target_view} (λ h. declared_target h c.args.kind (arguments_data c.args.arguments.now)) here_of c.declare_target.result
    c.declare_target.ensures c.here.ensures c.in_ok-named.ensures) (carries_then c.in_ok-require_fit.ensures
    (carries_then c.in_ok-require_all.ensures
    (carries_then {view = λ (n : ℕ). n} {x = c.in_ok-number.number} (carries_read (carries_then {x = c.in_ok-number.number} c.in_ok-number.ensures
    (carries_then (carries_as (ap noted_install c.in_ok-install.ensures) c.in_ok-note.ensures) (carries_give refl))))
    (carries_give (ap Some c.in_ok-value.ensures)))))
