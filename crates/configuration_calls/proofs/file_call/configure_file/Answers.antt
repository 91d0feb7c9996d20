use Rattle.std.proofs.Common.{[], ap, ◌∙◌}
use Rattle.arguments.specs.declared.rule.Rule.TheVariants as rules
use Rattle.support.specs.declared.faults.refusal.Refusal.TheVariants as refusals
use Rattle.support.specs.paths.Names.{is_file_name}
use Rattle.world.specs.Deed.{need}
use Rattle.world.specs.Ruled.{obeyed_rule}
use Rattle.world.proofs.Values.{two}
use Rattle.world.proofs.Answering.{carries_as, carries_stop, carries_then}
use Rattle.configuration_calls.specs.ConfigureFile.{configure_file}
use Rattle.configuration_calls.proofs.file_call.configure_file.Goals as goal

pub returns-in_err-need : goal.returns-in_err-need
unfolding configure_file
returns-in_err-need g c = carries_stop (carries_as (ap (λ b. need b refusals.LeftOut []) c.has_meson_format.ensures) c.in_err-need.ensures) c.from_residual.ensures.1

pub returns-in_err-obey : goal.returns-in_err-obey
unfolding configure_file
returns-in_err-obey g c =
    carries_then (carries_as (ap (λ b. need b refusals.LeftOut []) c.has_meson_format.ensures) c.in_ok-need.ensures)
    (carries_stop (carries_as (two (λ b n. obeyed_rule b rules.IsFileName n) (c.is_file_name.ensures ∙ ap is_file_name c.text-output.ensures) c.text-output.ensures) c.in_err-obey.ensures) c.from_residual-in_err-obey.ensures.1)

pub returns-in_err-input : goal.returns-in_err-input
unfolding configure_file
returns-in_err-input g c =
    carries_then (carries_as (ap (λ b. need b refusals.LeftOut []) c.has_meson_format.ensures) c.in_ok-need.ensures)
    (carries_then (carries_as (two (λ b n. obeyed_rule b rules.IsFileName n) (c.is_file_name.ensures ∙ ap is_file_name c.text-output.ensures) c.text-output.ensures) c.in_ok-obey.ensures)
    (carries_stop c.in_err-input.ensures c.from_residual-in_err-input.ensures.1))

pub returns-in_err-given : goal.returns-in_err-given
unfolding configure_file
returns-in_err-given g c =
    carries_then (carries_as (ap (λ b. need b refusals.LeftOut []) c.has_meson_format.ensures) c.in_ok-need.ensures)
    (carries_then (carries_as (two (λ b n. obeyed_rule b rules.IsFileName n) (c.is_file_name.ensures ∙ ap is_file_name c.text-output.ensures) c.text-output.ensures) c.in_ok-obey.ensures)
    (carries_then c.in_ok-input.ensures (carries_stop c.in_err-given.ensures c.from_residual-in_err-given.ensures.1)))

pub returns : goal.returns
unfolding configure_file
returns g c =
    carries_then (carries_as (ap (λ b. need b refusals.LeftOut []) c.has_meson_format.ensures) c.in_ok-need.ensures)
    (carries_then (carries_as (two (λ b n. obeyed_rule b rules.IsFileName n) (c.is_file_name.ensures ∙ ap is_file_name c.text-output.ensures) c.text-output.ensures) c.in_ok-obey.ensures)
    (carries_then c.in_ok-input.ensures (carries_then c.in_ok-given.ensures c.configure.ensures)))
