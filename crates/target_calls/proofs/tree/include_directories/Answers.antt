use Rattle.std.proofs.Common.{map, string_bytes, ap, refl}
use Rattle.world.specs.Deed.{answer_or_refusal}
use Rattle.world.proofs.Answering.{carries_as, carries_then, carries_stop, carries_give}
use Rattle.world.proofs.Settling.{carries_given}
use Rattle.sources.specs.Values.{directories_at}
use Rattle.target_calls.specs.Files.{include_directories}
use Rattle.target_calls.proofs.tree.include_directories.Goals as goal

pub returns-in_err-paths : goal.returns-in_err-paths
unfolding include_directories
returns-in_err-paths g c = carries_stop c.in_err-paths.ensures c.from_residual.ensures.1

pub returns-in_err-directories : goal.returns-in_err-directories
unfolding include_directories
returns-in_err-directories g c =
    carries_then c.in_ok-paths.ensures
    (carries_stop (carries_as (ap (λ ps. answer_or_refusal (directories_at (map string_bytes ps))) c.deref.ensures.value) (carries_given _ _ c.directories_at.ensures c.in_err-directories.ensures)) c.from_residual-in_err-directories.ensures.1)

pub returns : goal.returns
unfolding include_directories
returns g c =
    carries_then c.in_ok-paths.ensures
    (carries_then {x = c.in_ok-directories.directories} (carries_as (ap (λ ps. answer_or_refusal (directories_at (map string_bytes ps))) c.deref.ensures.value) (carries_given _ _ c.directories_at.ensures c.in_ok-directories.ensures)) (carries_give refl))
