-- Numbers that 64 bits do not hold.
use Rattle.std.proofs.Common.{◌≡◌, ℕ, ◌≤◌, ◌^◌, Bool, true, false, None, Some, ap, arith}
use Rattle.std.specs.Prelude.{nat_le, if◌then◌else◌}
use Rattle.std.proofs.lemmas.Bool.Decides.{nat_tests}
use Rattle.machine_file.specs.Numbers.{greatest, signed_integer, integer_of}

past : (negative : Bool) (n : ℕ) → 2 ^ 64 ≤ n → nat_le n (greatest negative) ≡ false
unfolding greatest
past true n h = grind (arith, nat_tests)
past false n h = grind (arith, nat_tests)

pub past_64 : (negative : Bool) (n : ℕ) → 2 ^ 64 ≤ n → integer_of negative n ≡ None
past_64 negative n h = ap (λ (b : Bool). if b then Some (signed_integer negative n) else None) (past negative n h)
