use Rattle.std.proofs.Common.{ℕ, List, Option, ap, ◌∙◌}
use Rattle.arguments.specs.declared.rule.Rule.TheVariants as rules
use Rattle.values.specs.Data.{Data}
use Rattle.world.specs.Ruled.{obeyed_rule}
use Rattle.values.specs.language_names.Names.{is_variable_name, is_predefined}
use Rattle.language_calls.specs.Variables.{get_variable, variable_or}
use Rattle.world.proofs.Values.{two}
use Rattle.world.proofs.Answering.{carries_as, carries_then, carries_stop}
use Rattle.language_calls.proofs.variables.get_variable.Goals as goal

pub returns-in_err-obey : goal.returns-in_err-obey
unfolding get_variable
returns-in_err-obey g c = carries_stop (carries_as (two (λ b n. obeyed_rule b rules.IsVariableName n) (c.is_variable_name.ensures ∙ ap is_variable_name c.text_at-name.ensures) c.text_at-name.ensures) c.in_err-obey.ensures) c.from_residual.ensures.1

pub returns : goal.returns
unfolding get_variable
returns g c = carries_then (carries_as (two (λ b n. obeyed_rule b rules.IsVariableName n) (c.is_variable_name.ensures ∙ ap is_variable_name c.text_at-name.ensures) c.text_at-name.ensures) c.in_ok-obey.ensures) (carries_as (two (λ (n : List ℕ) (f : Option Data). variable_or (is_predefined n) n f) c.text_at-name.ensures c.argument.ensures) c.variable_or.ensures)
