use Rattle.std.proofs.Common.{None, is_some, ap, refl, ◌∙◌}
use Rattle.support.specs.declared.faults.refusal.Refusal.TheVariants as refusals
use Rattle.arguments.specs.declared.rule.Rule.TheVariants as rules
use Rattle.world.specs.Deed.{need, change}
use Rattle.world.specs.Ruled.{obeyed_rule}
use Rattle.world.specs.Store.{world_of}
use Rattle.world.specs.World.{with_variable}
use Rattle.language_calls.specs.Variables.{unset_variable, is_settable}
use Rattle.world.proofs.Values.{two}
use Rattle.world.proofs.Answering.{carries_as, carries_then, carries_stop, carries_none, carries_read, carries_change, carries_give}
use Rattle.language_calls.proofs.variables.unset_variable.Goals as goal

pub returns-in_err-obey : goal.returns-in_err-obey
unfolding unset_variable
returns-in_err-obey g c = carries_stop (carries_as (two (λ b n. obeyed_rule b rules.IsSettable n) (c.is_settable.ensures ∙ ap is_settable c.text_at-name.ensures) c.text_at-name.ensures) c.in_err-obey.ensures) c.from_residual.ensures.1

pub returns-in_err-value : goal.returns-in_err-value
returns-in_err-value g c = carries_none c.from_residual-in_err-value.ensures.1

pub returns-in_err-need : goal.returns-in_err-need
unfolding unset_variable
returns-in_err-need g c = carries_then (carries_as (two (λ b n. obeyed_rule b rules.IsSettable n) (c.is_settable.ensures ∙ ap is_settable c.text_at-name.ensures) c.text_at-name.ensures) c.in_ok-obey.ensures) (carries_read (carries_stop (carries_as (two (λ b n. need b refusals.UndefinedName n) (c.is_known.ensures ∙ ap is_some (c.in_ok-value.ensures ∙ ap (world_of c.args.caller.now.store.now).facts.variables c.text_at-name.ensures)) c.text_at-name.ensures) c.in_err-need.ensures) c.from_residual-in_err-need.ensures.1))

pub returns : goal.returns
unfolding unset_variable
returns g c = carries_then (carries_as (two (λ b n. obeyed_rule b rules.IsSettable n) (c.is_settable.ensures ∙ ap is_settable c.text_at-name.ensures) c.text_at-name.ensures) c.in_ok-obey.ensures) (carries_read (carries_then (carries_as (two (λ b n. need b refusals.UndefinedName n) (c.is_known.ensures ∙ ap is_some (c.in_ok-value.ensures ∙ ap (world_of c.args.caller.now.store.now).facts.variables c.text_at-name.ensures)) c.text_at-name.ensures) c.in_ok-need.ensures) (carries_then (carries_as (ap (λ n. change (with_variable n None) (λ facts. refl)) c.text_at-name.ensures) (carries_change {x = tt {0}} c.unset.ensures.world c.unset.ensures.names)) (carries_give refl))))
