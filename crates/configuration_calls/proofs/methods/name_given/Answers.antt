use Rattle.std.proofs.Common.{ap, ◌∙◌}
use Rattle.arguments.specs.declared.rule.Rule.TheVariants as rules
use Rattle.template.specs.Line.{is_placeholder_name}
use Rattle.world.specs.Ruled.{obeyed_rule}
use Rattle.world.proofs.Values.{two}
use Rattle.world.proofs.Answering.{carries_as, carries_give, carries_stop, carries_then}
use Rattle.configuration_calls.specs.Methods.{name_given}
use Rattle.configuration_calls.proofs.methods.name_given.Goals as goal

pub returns-in_err-obey : goal.returns-in_err-obey
unfolding name_given
returns-in_err-obey g c =
    let is = c.is_placeholder_name.ensures ∙ ap is_placeholder_name c.text_at-name.ensures in
    carries_stop (carries_as (two (λ b n. obeyed_rule b rules.IsValueName n) is c.text_at-name.ensures) c.in_err-obey.ensures) c.from_residual.ensures.1

pub returns : goal.returns
unfolding name_given
returns g c =
    let is = c.is_placeholder_name.ensures ∙ ap is_placeholder_name c.text_at-name.ensures in
    carries_then (carries_as (two (λ b n. obeyed_rule b rules.IsValueName n) is c.text_at-name.ensures) c.in_ok-obey.ensures) (carries_give c.text_at-name.ensures)
