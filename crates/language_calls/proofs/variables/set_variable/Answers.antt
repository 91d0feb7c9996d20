use Rattle.std.proofs.Common.{ap, refl, ◌∙◌}
use Rattle.arguments.specs.declared.rule.Rule.TheVariants as rules
use Rattle.world.specs.Ruled.{obeyed_rule}
use Rattle.language_calls.specs.Variables.{set_variable, is_settable, set_to}
use Rattle.world.proofs.Values.{two}
use Rattle.world.proofs.Answering.{carries_as, carries_then, carries_stop, carries_give}
use Rattle.language_calls.proofs.variables.set_variable.Goals as goal

pub returns-in_err-obey : goal.returns-in_err-obey
unfolding set_variable
returns-in_err-obey g c = carries_stop (carries_as (two (λ b n. obeyed_rule b rules.IsSettable n) (c.is_settable.ensures ∙ ap is_settable c.text_at-name.ensures) c.text_at-name.ensures) c.in_err-obey.ensures) c.from_residual.ensures.1

pub returns-in_err-set_to : goal.returns-in_err-set_to
unfolding set_variable
returns-in_err-set_to g c = carries_then (carries_as (two (λ b n. obeyed_rule b rules.IsSettable n) (c.is_settable.ensures ∙ ap is_settable c.text_at-name.ensures) c.text_at-name.ensures) c.in_ok-obey.ensures) (carries_stop (carries_as (two set_to c.text_at-name.ensures c.argument.ensures) c.in_err-set_to.ensures) c.from_residual-in_err-set_to.ensures.1)

pub returns : goal.returns
unfolding set_variable
returns g c = carries_then (carries_as (two (λ b n. obeyed_rule b rules.IsSettable n) (c.is_settable.ensures ∙ ap is_settable c.text_at-name.ensures) c.text_at-name.ensures) c.in_ok-obey.ensures) (carries_then (carries_as (two set_to c.text_at-name.ensures c.argument.ensures) c.in_ok-set_to.ensures) (carries_give refl))
