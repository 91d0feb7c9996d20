use Rattle.std.proofs.Common.{map, drop, ap, sym, ◌∙◌, arith}
use Rattle.std.proofs.lemmas.Grind.{common_steps}
use Rattle.resources.specs.Joined.{within_limits}
use Rattle.resources.proofs.Within.{refused_joined}
use Rattle.resources.proofs.dependency_merge.join.Goals as goal

pub returns-then-not-is_within : goal.returns-then-not-is_within
returns-then-not-is_within c =
    let left = map (λ d. d.now) (drop c.loop-other.other-index c.args.others.now) in
    let past = sym (ap within_limits c.loop-other.invariant)
    ∙ refused_joined c.loop-other.all left (sym c.is_within.ensures ∙ c.if-not-is_within.true) in
    grind (arith, common_steps, past)

pub loop-other-init : goal.loop-other-init
loop-other-init c = grind (arith, common_steps)

pub loop-other-preserved : goal.loop-other-preserved
loop-other-preserved c = grind (arith, common_steps)

pub returns-then-is_within : goal.returns-then-is_within
returns-then-is_within c = grind (arith, common_steps)

pub returns-else-is_within : goal.returns-else-is_within
returns-else-is_within c = grind (arith, common_steps)
