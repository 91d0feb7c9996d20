-- Defines the integers of 64 bits.
use Rattle.std.specs.Prelude.{ℕ, ◌-◌, ◌^◌, ℤ, pos, neg_ℤ, Bool, Option, Some, None, nat_le, if◌then◌else◌}

-- Returns the greatest magnitude of an integer of 64 bits with this sign.
unfoldable pub greatest : Bool → ℕ
greatest negative = if negative then 2 ^ 63 else 2 ^ 63 - 1

-- Returns the integer of this magnitude, which is negative if the first argument is true.
abbrev pub signed_integer : Bool → ℕ → ℤ
signed_integer negative n = if negative then neg_ℤ (pos n) else pos n

-- Returns the integer, if it fits in 64 bits.
abbrev pub integer_of : Bool → ℕ → Option ℤ
integer_of negative n = if nat_le n (greatest negative) then Some (signed_integer negative n) else None
