use Rattle.std.proofs.Common.{ap, ◌∙◌, string_bytes, arith}
use Rattle.std.proofs.lemmas.Grind.{common_steps}
use Rattle.support.proofs.PathTexts.{join_first, join_more}
use Rattle.support.proofs.paths.named.join_parts.Goals as goal
use Rattle.support.proofs.paths.named.join_parts.Goals.{then-i-gt0+in_ok-push_str, else-i-gt0}

pub loop-i-preserved : goal.loop-i-preserved
loop-i-preserved c =
    let parts = c.args.parts.now in
    elim c.if-i-gt0.branch [
      | then-i-gt0+in_ok-push_str w ↦ join_more parts c.loop-i.i _ _ _ _ c.loop-i-test.true w.if-i-gt0.true c.loop-i.invariant (ap string_bytes w.path-is ∙ w.in_ok-push_str.ensures.bytes) c.in_ok-push_str-2.ensures.bytes
      | else-i-gt0 w ↦ join_first parts c.loop-i.i _ _ _ _ c.loop-i-test.true w.if-i-gt0.false c.loop-i.invariant (ap string_bytes w.path-is) c.in_ok-push_str-2.ensures.bytes
    ]

pub loop-i-init : goal.loop-i-init
loop-i-init c = grind (arith, common_steps)

pub returns : goal.returns
returns c = grind (arith, common_steps)
