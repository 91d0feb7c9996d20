use Rattle.std.proofs.Common.{refl, ap, ◌∙◌}
use Rattle.world.specs.Configuring.{configuration_at, merge_configured}
use Rattle.world.proofs.Answering.{carries_as, carries_give, carries_none, carries_read, carries_stop, carries_then}
use Rattle.configuration_calls.specs.Methods.{merge_from}
use Rattle.configuration_calls.proofs.Data.{merged_same}
use Rattle.configuration_calls.proofs.methods.merge_from.Goals as goal

pub returns-in_err-other : goal.returns-in_err-other
unfolding merge_from
returns-in_err-other g c = carries_stop c.in_err-other.ensures c.from_residual.ensures.1

pub returns-in_err-others : goal.returns-in_err-others
unfolding merge_from
returns-in_err-others g c = carries_then c.in_ok-other.ensures (carries_none c.from_residual-in_err-others.ensures.1)

pub returns-in_err-merge_configured : goal.returns-in_err-merge_configured
unfolding merge_from
returns-in_err-merge_configured g c =
    let merged = ap (merge_configured c.args.number) c.in_ok-others.ensures ∙ merged_same c.args.number (configuration_at c.in_ok-other.other c.args.caller.now.store.now.configurations) in
    carries_then c.in_ok-other.ensures (carries_read (carries_stop (carries_as merged c.in_err-merge_configured.ensures) c.from_residual-in_err-merge_configured.ensures.1))

pub returns : goal.returns
unfolding merge_from
returns g c =
    let merged = ap (merge_configured c.args.number) c.in_ok-others.ensures ∙ merged_same c.args.number (configuration_at c.in_ok-other.other c.args.caller.now.store.now.configurations) in
    carries_then c.in_ok-other.ensures (carries_read (carries_then (carries_as merged c.in_ok-merge_configured.ensures) (carries_give refl)))
