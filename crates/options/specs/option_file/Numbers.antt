-- Defines which numbers an option file may have.
use Rattle.std.specs.Prelude.{ℕ, ℤ, ◌^◌, Bool, List, Option, Some, None, nat_lt, if◌then◌else◌}
use Rattle.syntax.specs.lexer.Numerals.{magnitude}
use Rattle.machine_file.specs.Numbers.{integer_of}

-- Returns the least number beyond the range of the language's integers.
unfoldable pub past_integers : ℕ
past_integers = 2 ^ 127

-- Returns the number with this sign, if it fits in 64 bits, or nothing if its digits are out of range.
unfoldable pub numeral_value : Bool → List ℕ → Option (Option ℤ)
numeral_value negative digits =
    if nat_lt (magnitude digits) past_integers then Some (integer_of negative (magnitude digits)) else None
