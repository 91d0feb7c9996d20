-- Defines integers of 128 bits, from -2^127 to 2^127 - 1. In these definitions `pos n` is n, and `negsuc n` is -(n + 1).
use Rattle.std.specs.Prelude.{zero, suc, ℤ, pos, negsuc, ◌+ℤ◌, ◌-ℤ◌, ◌*ℤ◌, neg_ℤ, ◌≤ℤ◌, ◌<ℤ◌, ◌/◌, Bool, true, false, Option, Some, None}
use Rattle.std.specs.Prelude.{if◌then◌else◌}
use Rattle.support.specs.Limits.{is_in_range}

-- Returns an integer if it is in range.
abbrev pub in_range : ℤ → Option ℤ
in_range z = if is_in_range z then Some z else None

-- Holds if an integer is zero.
abbrev pub is_zero : ℤ → Bool
is_zero (pos zero) = true
is_zero (pos (suc n)) = false
is_zero (negsuc n) = false

-- Returns the quotient, rounded towards minus infinity.
abbrev pub floor : ℤ → ℤ → ℤ
floor (pos x) (pos y) = pos (x / y)
floor (pos zero) (negsuc y) = pos 0
floor (pos (suc x)) (negsuc y) = negsuc (x / suc y)
floor (negsuc x) (pos y) = negsuc (x / y)
floor (negsuc x) (negsuc y) = pos (suc x / suc y)

-- Holds if `r` can be the remainder of a division by `y`: zero, or less than `y` in size and of the same sign. Only one quotient leaves
-- such a remainder.
abbrev pub IsRest : ℤ → ℤ → Type 0
IsRest (pos y) r = (pos 0 ≤ℤ r) × (r <ℤ pos y)
IsRest (negsuc y) r = (negsuc y <ℤ r) × (r ≤ℤ pos 0)

-- Returns the opposite if it is in range.
abbrev pub opposite : ℤ → Option ℤ
opposite z = in_range (neg_ℤ z)

-- Returns the sum if it is in range.
abbrev pub sum : ℤ → ℤ → Option ℤ
sum x y = in_range (x +ℤ y)

-- Returns the difference if it is in range.
abbrev pub difference : ℤ → ℤ → Option ℤ
difference x y = in_range (x -ℤ y)

-- Returns the product if it is in range.
abbrev pub product : ℤ → ℤ → Option ℤ
product x y = in_range (x *ℤ y)

-- Returns the quotient if the divisor is not zero and the quotient is in range.
abbrev pub quotient : ℤ → ℤ → Option ℤ
quotient x y = if is_zero y then None else in_range (floor x y)

-- Returns the remainder. It exists even if the quotient is out of range.
abbrev pub remainder : ℤ → ℤ → Option ℤ
remainder x y = if is_zero y then None else in_range (x -ℤ y *ℤ floor x y)
