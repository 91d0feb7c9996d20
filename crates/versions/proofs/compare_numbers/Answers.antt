use Rattle.std.proofs.Common.{◌≡◌, ◌≢◌, length, arith}
use Rattle.versions.proofs.TextNumbers.{same_length_order, lengths_decide}
use Rattle.versions.proofs.compare_numbers.Goals as goal

pub returns-then-digits-other : goal.returns-then-digits-other
returns-then-digits-other c =
    let d = c.without_zeros-digits.ensures in
    let e = c.without_zeros-other.ensures in
    let far : length c.without_zeros-digits.result.now ≢ length c.without_zeros-other.result.now = omega arith in
    let decided = lengths_decide c.without_zeros-digits.result.now c.without_zeros-other.result.now d.digits e.digits d.no_zero e.no_zero far in cc (decided, d.same, e.same)

pub returns : goal.returns
returns c =
    let d = c.without_zeros-digits.ensures in
    let e = c.without_zeros-other.ensures in
    let long : length c.without_zeros-digits.result.now ≡ length c.without_zeros-other.result.now = omega arith in
    let decided = same_length_order c.without_zeros-digits.result.now c.without_zeros-other.result.now d.digits e.digits long in cc (decided, d.same, e.same)
