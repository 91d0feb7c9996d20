use Rattle.std.proofs.Common.{◌≡◌, ◌≤◌, [], length, take, refl, sym, ap, arith}
use Rattle.std.specs.Prelude.{nat_lt}
use Rattle.std.proofs.lemmas.List.{length-take-le}
use Rattle.template.specs.Given.{called, past}
use Rattle.template.proofs.template.has_more.Goals as goal

pub returns-then-at-size-clause-given : goal.returns-then-at-size-clause-given
returns-then-at-size-clause-given g c = ([], refl, past c.if-at-size.true)

pub returns-clause-given : goal.returns-clause-given
returns-clause-given g c =
    let n = c.in_ok-count.count in
    let size : length c.read_at.new.buf ≡ 1 = c.read_at.auto.buf in
    let few : n ≤ 1 = c.in_ok-count.ensures.within in
    let len : length (take n c.read_at.new.buf) ≡ n = length-take-le n c.read_at.new.buf (omega arith) in (
      take n c.read_at.new.buf,
      ap (nat_lt 0) (sym len),
      called (take n c.read_at.new.buf) _ c.read_at.new.self (omega arith) (omega (arith, c.if-at-size.false)) c.in_ok-count.ensures.gives (omega arith),
    )
