use Rattle.std.proofs.Common.{ap, refl, ◌∙◌}
use Rattle.world.proofs.Values.{two}
use Rattle.world.specs.Deed.{change}
use Rattle.world.specs.World.{with_place}
use Rattle.world.proofs.Answering.{carries_as, carries_change, carries_give, carries_none, carries_read, carries_stop, carries_then}
use Rattle.project_calls.specs.OptionFile.{declared_at}
use Rattle.project_calls.proofs.option_file.collect_at.Goals as goal

pub returns-in_err-from_str : goal.returns-in_err-from_str
returns-in_err-from_str g c = carries_none c.from_residual.ensures.1

pub returns-in_err-declared : goal.returns-in_err-declared
unfolding declared_at
returns-in_err-declared g c =
    carries_read (carries_then (carries_as (two (λ f d. change (with_place f d 1) (λ facts. refl)) c.in_ok-from_str.ensures.ok c.new.ensures.bytes) (carries_change {x = tt {0}} c.go-outer.ensures.moved c.go-outer.ensures.names))
    (carries_stop c.in_err-declared.ensures c.from_residual-in_err-declared.ensures.1))

pub returns : goal.returns
unfolding declared_at
returns g c =
    carries_read (carries_then (carries_as (two (λ f d. change (with_place f d 1) (λ facts. refl)) c.in_ok-from_str.ensures.ok c.new.ensures.bytes) (carries_change {x = tt {0}} c.go-outer.ensures.moved c.go-outer.ensures.names))
    (carries_then c.in_ok-declared.ensures
    (carries_then (carries_as (two (λ f d. change (with_place f d c.go-outer.result.line) (λ facts. refl)) c.go-outer.ensures.file c.go-outer.ensures.folder ∙ ap (λ n. change (with_place c.args.caller.now.store.now.file c.args.caller.now.store.now.folder n) (λ facts. refl)) c.go-outer.ensures.line)
    (carries_change {x = tt {0}} c.go-inner.ensures.moved c.go-inner.ensures.names)) (carries_give refl))))
