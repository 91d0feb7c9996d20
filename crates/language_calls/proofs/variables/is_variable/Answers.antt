use Rattle.std.proofs.Common.{Some, is_some, ap, ◌∙◌}
use Rattle.std.specs.Prelude.{◌||◌}
use Rattle.arguments.specs.declared.rule.Rule.TheVariants as rules
use Rattle.values.specs.Data.{boolean}
use Rattle.world.specs.Ruled.{obeyed_rule}
use Rattle.world.specs.Store.{world_of}
use Rattle.values.specs.language_names.Names.{is_variable_name, is_predefined}
use Rattle.language_calls.specs.Variables.{is_variable}
use Rattle.world.proofs.Values.{two}
use Rattle.world.proofs.Answering.{carries_as, carries_then, carries_stop, carries_none, carries_read, carries_give}
use Rattle.language_calls.proofs.variables.is_variable.Goals as goal

pub returns-in_err-obey : goal.returns-in_err-obey
unfolding is_variable
returns-in_err-obey g c = carries_stop (carries_as (two (λ b n. obeyed_rule b rules.IsVariableName n) (c.is_variable_name.ensures ∙ ap is_variable_name c.text_at-name.ensures) c.text_at-name.ensures) c.in_err-obey.ensures) c.from_residual.ensures.1

pub returns-in_err-value : goal.returns-in_err-value
returns-in_err-value g c = carries_none c.from_residual-in_err-value.ensures.1

pub returns : goal.returns
unfolding is_variable
returns g c = carries_then (carries_as (two (λ b n. obeyed_rule b rules.IsVariableName n) (c.is_variable_name.ensures ∙ ap is_variable_name c.text_at-name.ensures) c.text_at-name.ensures) c.in_ok-obey.ensures) (carries_read (carries_give (ap (λ b. Some (boolean b)) (c.is_set.ensures ∙ two (λ n v. is_predefined n || is_some v) c.text_at-name.ensures (c.in_ok-value.ensures ∙ ap (world_of c.args.caller.now.store.now).facts.variables c.text_at-name.ensures)))))
