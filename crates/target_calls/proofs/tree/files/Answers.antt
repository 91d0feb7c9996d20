use Rattle.std.proofs.Common.{map, string_bytes, ap, refl}
use Rattle.world.specs.Deed.{answer_or_refusal}
use Rattle.world.proofs.Answering.{carries_as, carries_then, carries_stop, carries_give}
use Rattle.world.proofs.Settling.{carries_given}
use Rattle.sources.specs.Values.{files_at}
use Rattle.target_calls.specs.Files.{files}
use Rattle.target_calls.proofs.tree.files.Goals as goal

pub returns-in_err-paths : goal.returns-in_err-paths
unfolding files
returns-in_err-paths g c = carries_stop c.in_err-paths.ensures c.from_residual.ensures.1

pub returns-in_err-require_all : goal.returns-in_err-require_all
unfolding files
returns-in_err-require_all g c =
    carries_then c.in_ok-paths.ensures
    (carries_stop c.in_err-require_all.ensures c.from_residual-in_err-require_all.ensures.1)

pub returns-in_err-list : goal.returns-in_err-list
unfolding files
returns-in_err-list g c =
    carries_then c.in_ok-paths.ensures
    (carries_then c.in_ok-require_all.ensures
    (carries_stop (carries_as (ap (λ ps. answer_or_refusal (files_at (map string_bytes ps))) c.deref.ensures.value) (carries_given _ _ c.files_at-listed.ensures c.in_err-list.ensures)) c.from_residual-in_err-list.ensures.1))

pub returns : goal.returns
unfolding files
returns g c =
    carries_then c.in_ok-paths.ensures
    (carries_then c.in_ok-require_all.ensures
    (carries_then {x = c.in_ok-list.list} (carries_as (ap (λ ps. answer_or_refusal (files_at (map string_bytes ps))) c.deref.ensures.value) (carries_given _ _ c.files_at-listed.ensures c.in_ok-list.ensures)) (carries_give refl)))
