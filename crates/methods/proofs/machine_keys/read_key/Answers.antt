use Rattle.std.proofs.Common.{ap, refl, ◌∙◌}
use Rattle.values.specs.Data.{text}
use Rattle.values.specs.Limits.{within}
use Rattle.machine_file.specs.Questions.{Key, answer_to}
use Rattle.world.specs.Deed.{answer_or_refusal}
use Rattle.world.proofs.Answering.{carries_as, carries_give, carries_stop, carries_then}
use Rattle.world.proofs.Settling.{carries_given}
use Rattle.methods.specs.Keys.{text_of_key, said_or}
use Rattle.methods.proofs.machine_keys.read_key.Goals as goal

pub returns-in_err-ask_key : goal.returns-in_err-ask_key
unfolding text_of_key
returns-in_err-ask_key g c = carries_stop c.in_err-ask_key.ensures.deed c.from_residual.ensures.1

pub returns-in_err-value : goal.returns-in_err-value
unfolding text_of_key
returns-in_err-value g c =
    let topic = Key c.args.section.now c.args.key.now in
    carries_then c.in_ok-ask_key.ensures.deed (carries_stop (carries_as (ap (λ t. answer_or_refusal (within (text t)))
    (c.text_or-text.ensures ∙ ap (λ m. said_or c.args.default.now (answer_to m topic)) (c.machine.ensures ∙ c.in_ok-ask_key.ensures.machine)))
    (carries_given _ _ c.text_value-answer.ensures c.in_err-value.ensures)) c.from_residual-in_err-value.ensures.1)

pub returns : goal.returns
unfolding text_of_key
returns g c =
    let topic = Key c.args.section.now c.args.key.now in
    carries_then c.in_ok-ask_key.ensures.deed (carries_then {x = c.in_ok-value.value} (carries_as (ap (λ t. answer_or_refusal (within (text t)))
    (c.text_or-text.ensures ∙ ap (λ m. said_or c.args.default.now (answer_to m topic)) (c.machine.ensures ∙ c.in_ok-ask_key.ensures.machine)))
    (carries_given _ _ c.text_value-answer.ensures c.in_ok-value.ensures)) (carries_give refl))
