use Rattle.std.proofs.Common.{ap, refl, sym}
use Rattle.arguments.specs.Arguments.{arguments_data}
use Rattle.interp.specs.Functions.{call, does}
use Rattle.world.proofs.Answering.{carries_as, carries_give, carries_stop, carries_then}
use Rattle.interp.proofs.functions.call.Goals as goal

pub returns-in_err-fit : goal.returns-in_err-fit
unfolding call
returns-in_err-fit g c = carries_stop c.in_err-fit.ensures c.from_residual.ensures.1

pub returns-in_err-refuse_disabler : goal.returns-in_err-refuse_disabler
unfolding call
returns-in_err-refuse_disabler g c = carries_then c.in_ok-fit.ensures (carries_stop c.in_err-refuse_disabler.ensures c.from_residual-in_err-refuse_disabler.ensures.1)

pub returns-in-Assert : goal.returns-in-Assert
unfolding call
returns-in-Assert g c = carries_then c.in_ok-fit.ensures (carries_then c.in_ok-refuse_disabler.ensures
    (carries_as (ap (λ f. does f (arguments_data c.args.arguments.now)) (sym c.in-Assert.is)) c.assert.ensures))

pub returns-in-Disabler : goal.returns-in-Disabler
unfolding call
returns-in-Disabler g c = carries_then c.in_ok-fit.ensures (carries_then c.in_ok-refuse_disabler.ensures
    (carries_as (ap (λ f. does f (arguments_data c.args.arguments.now)) (sym c.in-Disabler.is)) c.disabler.ensures))

pub returns-in-Error : goal.returns-in-Error
unfolding call
returns-in-Error g c = carries_then c.in_ok-fit.ensures (carries_then c.in_ok-refuse_disabler.ensures
    (carries_as (ap (λ f. does f (arguments_data c.args.arguments.now)) (sym c.in-Error.is)) c.error.ensures))

pub returns-in-GetVariable : goal.returns-in-GetVariable
unfolding call
returns-in-GetVariable g c = carries_then c.in_ok-fit.ensures (carries_then c.in_ok-refuse_disabler.ensures
    (carries_as (ap (λ f. does f (arguments_data c.args.arguments.now)) (sym c.in-GetVariable.is)) c.get_variable.ensures))

pub returns-in-IsDisabler : goal.returns-in-IsDisabler
unfolding call
returns-in-IsDisabler g c = carries_then c.in_ok-fit.ensures (carries_then c.in_ok-refuse_disabler.ensures
    (carries_as (ap (λ f. does f (arguments_data c.args.arguments.now)) (sym c.in-IsDisabler.is)) c.is_disabler.ensures))

pub returns-in-IsVariable : goal.returns-in-IsVariable
unfolding call
returns-in-IsVariable g c = carries_then c.in_ok-fit.ensures (carries_then c.in_ok-refuse_disabler.ensures
    (carries_as (ap (λ f. does f (arguments_data c.args.arguments.now)) (sym c.in-IsVariable.is)) c.is_variable.ensures))

pub returns-in-Message : goal.returns-in-Message
unfolding call
returns-in-Message g c = carries_then c.in_ok-fit.ensures (carries_then c.in_ok-refuse_disabler.ensures
    (carries_as (ap (λ f. does f (arguments_data c.args.arguments.now)) (sym c.in-Message.is)) c.message.ensures))

pub returns-in-Project : goal.returns-in-Project
unfolding call
returns-in-Project g c = carries_then c.in_ok-fit.ensures (carries_then c.in_ok-refuse_disabler.ensures
    (carries_as (ap (λ f. does f (arguments_data c.args.arguments.now)) (sym c.in-Project.is)) c.project.ensures))

pub returns-in-SetVariable : goal.returns-in-SetVariable
unfolding call
returns-in-SetVariable g c = carries_then c.in_ok-fit.ensures (carries_then c.in_ok-refuse_disabler.ensures
    (carries_as (ap (λ f. does f (arguments_data c.args.arguments.now)) (sym c.in-SetVariable.is)) c.set_variable.ensures))

pub returns-in-UnsetVariable : goal.returns-in-UnsetVariable
unfolding call
returns-in-UnsetVariable g c = carries_then c.in_ok-fit.ensures (carries_then c.in_ok-refuse_disabler.ensures
    (carries_as (ap (λ f. does f (arguments_data c.args.arguments.now)) (sym c.in-UnsetVariable.is)) c.unset_variable.ensures))

pub returns-in-Warning : goal.returns-in-Warning
unfolding call
returns-in-Warning g c = carries_then c.in_ok-fit.ensures (carries_then c.in_ok-refuse_disabler.ensures
    (carries_as (ap (λ f. does f (arguments_data c.args.arguments.now)) (sym c.in-Warning.is)) c.warning.ensures))

pub returns-in-SubdirDone : goal.returns-in-SubdirDone
unfolding call
returns-in-SubdirDone g c = carries_then c.in_ok-fit.ensures (carries_then c.in_ok-refuse_disabler.ensures
    (carries_as (ap (λ f. does f (arguments_data c.args.arguments.now)) (sym c.in-SubdirDone.is)) (carries_give refl)))

pub returns-in-OfProject : goal.returns-in-OfProject
unfolding call
returns-in-OfProject g c = carries_then c.in_ok-fit.ensures (carries_then c.in_ok-refuse_disabler.ensures
    (carries_as (ap (λ f. does f (arguments_data c.args.arguments.now)) (sym c.in-OfProject.is)) c.project_function.ensures))

pub returns-in-JoinPaths : goal.returns-in-JoinPaths
unfolding call
returns-in-JoinPaths g c = carries_then c.in_ok-fit.ensures (carries_then c.in_ok-refuse_disabler.ensures
    (carries_as (ap (λ f. does f (arguments_data c.args.arguments.now)) (sym c.in-JoinPaths.is)) c.join_paths.ensures))

pub returns-in-Range : goal.returns-in-Range
unfolding call
returns-in-Range g c = carries_then c.in_ok-fit.ensures (carries_then c.in_ok-refuse_disabler.ensures
    (carries_as (ap (λ f. does f (arguments_data c.args.arguments.now)) (sym c.in-Range.is)) c.range.ensures))

pub returns-in-Subdir : goal.returns-in-Subdir
unfolding call
returns-in-Subdir g c = carries_then c.in_ok-fit.ensures (carries_then c.in_ok-refuse_disabler.ensures
    (carries_as (ap (λ f. does f (arguments_data c.args.arguments.now)) (sym c.in-Subdir.is)) (carries_give refl)))
