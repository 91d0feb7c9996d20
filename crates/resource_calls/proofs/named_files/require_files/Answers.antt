use Rattle.std.proofs.Common.{map, ap, refl}
use Rattle.std.proofs.lemmas.List.{drop_all}
use Rattle.sources.specs.SourcesView.{named_view}
use Rattle.world.proofs.Answering.{carries_give}
use Rattle.world.proofs.Leading.{leads_start, leads_on, leads_end, leads_stop, leads_as, room_on}
use Rattle.resource_calls.specs.NamedFiles.{files_required}
use Rattle.resource_calls.proofs.NamedFiles.{files_required-drop}
use Rattle.resource_calls.proofs.named_files.require_files.Goals as goal

pub loop-one-init : goal.loop-one-init
loop-one-init g c = leads_start

pub require_file-requires : goal.require_file-requires
require_file-requires g c = room_on c.loop-one.invariant c.requires

pub returns-in_err-require_file : goal.returns-in_err-require_file
returns-in_err-require_file g c =
    let l = c.loop-one in
    leads_stop (leads_as (files_required-drop c.args.named.now l.one-index c.one-item.result c.loop-one-test.true c.one-item.is) l.invariant)
    c.in_err-require_file.ensures c.from_residual.ensures.1

pub loop-one-preserved : goal.loop-one-preserved
loop-one-preserved g c =
    let l = c.loop-one in
    leads_on (leads_as (files_required-drop c.args.named.now l.one-index c.one-item.result c.loop-one-test.true c.one-item.is) l.invariant)
    c.in_ok-require_file.ensures

pub returns : goal.returns
unfolding files_required
returns g c =
    let l = c.loop-one in
    leads_end (leads_as (ap (λ ns. files_required (map named_view ns)) (drop_all l.one-index c.args.named.now c.loop-one-test.false)) l.invariant)
    (carries_give refl)
