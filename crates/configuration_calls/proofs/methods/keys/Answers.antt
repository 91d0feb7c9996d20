use Rattle.std.proofs.Common.{map, refl, ap, ◌∙◌}
use Rattle.world.specs.Deed.{answer_or_refusal}
use Rattle.world.proofs.Answering.{carries_as, carries_give, carries_none, carries_read, carries_stop, carries_then, carries_value}
use Rattle.operations.specs.operators.TextLists.{text_list}
use Rattle.configuration_calls.specs.Methods.{keys}
use Rattle.configuration_calls.proofs.methods.keys.Goals as goal

pub returns-in_err-names : goal.returns-in_err-names
returns-in_err-names g c = carries_none c.from_residual.ensures.1

pub returns-in_err-answer : goal.returns-in_err-answer
returns-in_err-answer g c = carries_none c.from_residual-in_err-answer.ensures.1

pub returns-in_err-value : goal.returns-in_err-value
unfolding keys
returns-in_err-value g c =
    let listed = ap (λ ns. answer_or_refusal (text_list ns)) (ap (map (λ n. n.now)) c.deref.ensures.value ∙ c.in_ok-names.ensures) in
    carries_read (carries_stop (carries_as listed (carries_value _ _ c.in_ok-answer.ensures c.in_err-value.ensures)) c.from_residual-in_err-value.ensures.1)

pub returns : goal.returns
unfolding keys
returns g c =
    let listed = ap (λ ns. answer_or_refusal (text_list ns)) (ap (map (λ n. n.now)) c.deref.ensures.value ∙ c.in_ok-names.ensures) in
    carries_read (carries_then {x = c.in_ok-value.value} (carries_as listed (carries_value _ _ c.in_ok-answer.ensures c.in_ok-value.ensures)) (carries_give refl))
