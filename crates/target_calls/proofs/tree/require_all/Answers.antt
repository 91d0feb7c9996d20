use Rattle.std.proofs.Common.{map, string_bytes, ap, refl, sym, arith}
use Rattle.std.proofs.lemmas.List.{nil_from_length}
use Rattle.world.proofs.Answering.{carries_give}
use Rattle.world.proofs.Leading.{leads_start, leads_on, leads_end, leads_stop, leads_as, room_on}
use Rattle.target_calls.specs.Files.{all_required}
use Rattle.target_calls.proofs.tree.require_all.Goals as goal

pub loop-path-init : goal.loop-path-init
loop-path-init g c = leads_as (ap (λ ps. all_required (map string_bytes ps)) (sym c.into_iter-path-iterator.ensures.into_iter_gives.0)) leads_start

pub require_own_file-requires : goal.require_own_file-requires
require_own_file-requires g c = room_on c.loop-path.invariant c.requires

pub returns-in_err-require_own_file : goal.returns-in_err-require_own_file
unfolding all_required
returns-in_err-require_own_file g c =
    leads_stop (leads_as (ap (λ ps. all_required (map string_bytes ps)) c.in-Some.ensures.steps.0) c.loop-path.invariant)
    c.in_err-require_own_file.ensures c.from_residual.ensures.1

pub loop-path-preserved : goal.loop-path-preserved
unfolding all_required
loop-path-preserved g c =
    leads_on (leads_as (ap (λ ps. all_required (map string_bytes ps)) c.in-Some.ensures.steps.0) c.loop-path.invariant) c.in_ok-require_own_file.ensures

pub returns : goal.returns
unfolding all_required
returns g c =
    let left = c.loop-path.path-iterator.rest in
    leads_end (leads_as (ap (λ ps. all_required (map string_bytes ps)) (nil_from_length left.items (omega (arith, left.ok.0, c.in-None.ensures.steps.0)))) c.loop-path.invariant)
    (carries_give refl)
