use Rattle.std.proofs.Common.{map, ap, refl, ◌∙◌}
use Rattle.values.specs.Data.{no_items}
use Rattle.values.specs.View.{data_of}
use Rattle.world.proofs.Answering.{carries_as, carries_give, carries_none, carries_stop, carries_then}
use Rattle.world.proofs.Settling.{carries_given}
use Rattle.methods.specs.CompilerMethods.{get_supported_arguments, supported_arguments}
use Rattle.methods.proofs.compiler.dispatch.get_supported_arguments.Goals as goal

pub returns-in_err-values : goal.returns-in_err-values
returns-in_err-values g c = carries_none c.from_residual.ensures.1

pub returns-in_err-taken : goal.returns-in_err-taken
unfolding get_supported_arguments
returns-in_err-taken g c =
    carries_stop (carries_as (ap (λ vs. supported_arguments no_items (map (λ v. data_of v.now) vs)) c.deref.ensures.value ∙ ap (supported_arguments no_items) c.in_ok-values.ensures)
    c.in_err-taken.ensures) c.from_residual-in_err-taken.ensures.1

pub returns-in_err-value : goal.returns-in_err-value
unfolding get_supported_arguments
returns-in_err-value g c =
    carries_then (carries_as (ap (λ vs. supported_arguments no_items (map (λ v. data_of v.now) vs)) c.deref.ensures.value ∙ ap (supported_arguments no_items) c.in_ok-values.ensures)
    c.in_ok-taken.ensures) (carries_stop (carries_given _ _ c.list_value.ensures c.in_err-value.ensures) c.from_residual-in_err-value.ensures.1)

pub returns : goal.returns
unfolding get_supported_arguments
returns g c =
    carries_then (carries_as (ap (λ vs. supported_arguments no_items (map (λ v. data_of v.now) vs)) c.deref.ensures.value ∙ ap (supported_arguments no_items) c.in_ok-values.ensures)
    c.in_ok-taken.ensures) (carries_then {x = c.in_ok-value.value} (carries_given _ _ c.list_value.ensures c.in_ok-value.ensures) (carries_give refl))
