use Rattle.std.proofs.Common.{◌≡◌, ◌<◌, length, subst, ◌∙◌, arith}
use Rattle.ports.proofs.Sending.{writes_nothing}
use Rattle.backend.proofs.Counting.{kept_count, targets_next, targets_stop, targets_end}
use Rattle.backend.proofs.Parts.{steps_none}
use Rattle.backend.proofs.build_file.write_targets.Goals as goal

pub loop-number-init : goal.loop-number-init
loop-number-init g c = rw (steps_none c.args.project.now) (writes_nothing (g.O.Outputs.seen c.args.out.now))

pub returns-in_err-write_target : goal.returns-in_err-write_target
returns-in_err-write_target g c =
    let w = c.args.project.now in
    let count = kept_count c.targets-number-end.result.now w c.targets-number-end.ensures in
    targets_stop w c.loop-number.number _ c.in_err-write_target.field-0.0 (subst (λ n. c.loop-number.number < n) count c.loop-number-test.true)
    c.loop-number.invariant c.in_err-write_target.ensures c.from_residual.ensures.1

pub loop-number-preserved : goal.loop-number-preserved
loop-number-preserved g c = targets_next c.args.project.now c.loop-number.number c.loop-number.invariant c.in_ok-write_target.ensures

pub returns : goal.returns
returns g c =
    let w = c.args.project.now in
    let end : c.loop-number.number ≡ length c.targets-number-end.result.now = omega (arith, c.loop-number-test.false, c.loop-number.auto.number-end) in
    targets_end w c.loop-number.number (end ∙ kept_count c.targets-number-end.result.now w c.targets-number-end.ensures) c.loop-number.invariant
