use Rattle.std.proofs.Common.{arith, take}
use Rattle.std.proofs.lemmas.List.{length-take}
use Rattle.template.proofs.Pieces.{ending-le}
use Rattle.template.proofs.Scan.{plain_of, sign_even, sign_odd}
use Rattle.template.proofs.replace.find_sign.Goals as goal

pub returns-in_default : goal.returns-in_default
returns-in_default c = plain_of c.args.rest.now c.in_default.ensures

pub overflow_sub-text-2 : goal.overflow_sub-text-2
overflow_sub-text-2 c =
    let n = c.count_slashes-slashes.ensures in
    let le = ending-le (take c.in-Some.at c.args.rest.now) in
    omega (arith, n, le, length-take c.in-Some.at c.args.rest.now)

pub returns-then-slashes-eq0 : goal.returns-then-slashes-eq0
returns-then-slashes-eq0 c = sign_even c.args.rest.now c.in-Some.at _ _ c.in-Some.ensures c.count_slashes-slashes.ensures c.if-slashes-eq0.true c.name_length-name.ensures

pub returns-else-slashes-eq0 : goal.returns-else-slashes-eq0
returns-else-slashes-eq0 c = sign_odd c.args.rest.now c.in-Some.at _ c.in-Some.ensures c.count_slashes-slashes.ensures c.if-slashes-eq0.false
