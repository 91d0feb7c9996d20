use Rattle.std.proofs.Common.{sym, ap, ◌∙◌, arith}
use Rattle.std.proofs.lemmas.List.{drop_all}
use Rattle.template.proofs.Pieces.{slashes_at, slashes_at-is}
use Rattle.template.proofs.Scan.{slashes_at-drop}
use Rattle.template.proofs.replace.count_slashes.Goals as goal

pub loop-b-preserved : goal.loop-b-preserved
loop-b-preserved c =
    let same = c.loop-b.invariant.same in
    let step = slashes_at-drop c.loop-b.slashes c.args.bytes.now c.loop-b.b-index c.loop-b-test.true in
    record { few = grind arith; same = grind (arith, step, same) }

pub returns : goal.returns
unfolding slashes_at
returns c = ap (slashes_at c.loop-b.slashes) (sym (drop_all c.loop-b.b-index c.args.bytes.now (omega arith))) ∙ c.loop-b.invariant.same ∙ slashes_at-is c.args.bytes.now
