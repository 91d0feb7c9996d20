use Rattle.std.proofs.Common.{[], Bor, ℕ, List, map, refl, ap, ◌∙◌}
use Rattle.values.specs.Data.{text}
use Rattle.values.specs.Limits.{within}
use Rattle.world.specs.Deed.{answer_or_refusal}
use Rattle.language_calls.specs.JoinPaths.{join_paths, path_of}
use Rattle.world.proofs.Answering.{carries_as, carries_give, carries_none, carries_stop, carries_then}
use Rattle.world.proofs.Settling.{carries_given}
use Rattle.language_calls.proofs.path_joining.join_paths.Goals as goal

pub returns-in_err-texts : goal.returns-in_err-texts
returns-in_err-texts g c = carries_none c.from_residual.ensures.1

pub returns-in_err-value : goal.returns-in_err-value
unfolding join_paths
returns-in_err-value g c =
    let given = ap (map (λ (t : Bor (List ℕ)). t.now)) c.deref.ensures.value ∙ c.in_ok-texts.ensures in
    carries_stop (carries_as (ap (λ ts. answer_or_refusal (within (text (path_of [] ts)))) given)
    (carries_given _ _ c.path_value.ensures c.in_err-value.ensures)) c.from_residual-in_err-value.ensures.1

pub returns : goal.returns
unfolding join_paths
returns g c =
    let given = ap (map (λ (t : Bor (List ℕ)). t.now)) c.deref.ensures.value ∙ c.in_ok-texts.ensures in
    carries_then {x = c.in_ok-value.value} (carries_as (ap (λ ts. answer_or_refusal (within (text (path_of [] ts)))) given)
    (carries_given _ _ c.path_value.ensures c.in_ok-value.ensures)) (carries_give refl)
