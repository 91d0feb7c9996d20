use Rattle.std.proofs.Common.{◌≡◌, true, ◌∷◌, ◌∙◌, arith, rules}
use Rattle.std.specs.Char.{is_ascii_digit}
use Rattle.std.proofs.lemmas.List.Elements.{All-rest}
use Rattle.versions.proofs.TextNumbers.{zero_taken}
use Rattle.versions.proofs.without_zeros.Goals as goal

pub loop-first-preserved : goal.loop-first-preserved
loop-first-preserved c =
    let split : c.loop-first.left.now ≡ c.in-Some.first.now ∷ c.in-Some.rest.now = search rules in
    let is_zero : c.in-Some.first.now ≡ 48 = omega arith in
    record {
      same = zero_taken c.loop-first.left.now c.in-Some.rest.now c.in-Some.first.now split is_zero ∙ c.loop-first.invariant.same;
      digits = All-rest (λ d. is_ascii_digit d ≡ true) c.in-Some.first.now c.in-Some.rest.now c.loop-first.left.now split c.loop-first.invariant.digits;
    }
