use Rattle.std.proofs.Common.{refl, ap}
use Rattle.world.specs.Deed.{answer_or_refusal}
use Rattle.world.proofs.Answering.{carries_as, carries_give, carries_read, carries_stop, carries_then}
use Rattle.world.proofs.Settling.{carries_given}
use Rattle.configuration_calls.specs.Contents.{found_or}
use Rattle.configuration_calls.specs.Methods.{get}
use Rattle.world.proofs.Values.{two}
use Rattle.configuration_calls.proofs.methods.get.Goals as goal

pub returns-in_err-name : goal.returns-in_err-name
unfolding get
returns-in_err-name g c = carries_stop c.in_err-name.ensures c.from_residual.ensures.1

pub returns-in_err-value : goal.returns-in_err-value
unfolding get
returns-in_err-value g c =
    let asked = ap answer_or_refusal (two (found_or c.args.quotes) c.content_at-content.ensures c.argument.ensures) in
    carries_then c.in_ok-name.ensures (carries_read (carries_stop (carries_as asked (carries_given _ _ c.take_or.ensures c.in_err-value.ensures)) c.from_residual-in_err-value.ensures.1))

pub returns : goal.returns
unfolding get
returns g c =
    let asked = ap answer_or_refusal (two (found_or c.args.quotes) c.content_at-content.ensures c.argument.ensures) in
    carries_then c.in_ok-name.ensures (carries_read (carries_then {x = c.in_ok-value.value} (carries_as asked (carries_given _ _ c.take_or.ensures c.in_ok-value.ensures)) (carries_give refl)))
