use Rattle.std.proofs.Common.{refl, ap, ◌∙◌}
use Rattle.values.specs.Limits.{within_bytes}
use Rattle.world.proofs.Answering.{carries_answered, carries_give, carries_none, carries_stop, carries_then}
use Rattle.world.specs.Store.{world_of}
use Rattle.world.proofs.Values.{views_same}
use Rattle.configuration_calls.specs.ConfigureFile.{prepared_path}
use Rattle.configuration_calls.proofs.Data.{answered_within}
use Rattle.configuration_calls.proofs.file_call.prepare.Goals as goal

pub returns-in_err-path-clause-carries : goal.returns-in_err-path-clause-carries
returns-in_err-path-clause-carries g c = carries_none c.from_residual.ensures.1

pub returns-in_err-answer-clause-carries : goal.returns-in_err-answer-clause-carries
returns-in_err-answer-clause-carries g c = carries_none c.from_residual-in_err-answer.ensures.1

pub returns-in_err-text-clause-carries : goal.returns-in_err-text-clause-carries
unfolding prepared_path
returns-in_err-text-clause-carries g c =
    carries_stop (carries_answered _ _ (views_same _ _ (c.in_ok-answer.ensures ∙ ap within_bytes c.in_ok-path.ensures)) c.in_err-text.ensures) c.from_residual-in_err-text.ensures.1

pub returns-in_err-freeze-clause-carries : goal.returns-in_err-freeze-clause-carries
unfolding prepared_path
returns-in_err-freeze-clause-carries g c =
    carries_then (carries_answered _ _ (views_same _ _ (c.in_ok-answer.ensures ∙ ap within_bytes c.in_ok-path.ensures)) c.in_ok-text.ensures)
    (carries_stop c.in_err-freeze.ensures c.from_residual-in_err-freeze.ensures.1)

pub returns-clause-carries : goal.returns-clause-carries
unfolding prepared_path
returns-clause-carries g c =
    carries_then (carries_answered _ _ (views_same _ _ (c.in_ok-answer.ensures ∙ ap within_bytes c.in_ok-path.ensures)) c.in_ok-text.ensures)
    (carries_then c.in_ok-freeze.ensures (carries_give refl))

pub returns-clause-path : goal.returns-clause-path
returns-clause-path g c = answered_within (world_of c.args.caller.now.store.now) _ _ (c.in_ok-answer.ensures ∙ ap within_bytes c.in_ok-path.ensures) c.in_ok-text.ensures
