-- Defines the integer that a text spells.
use Rattle.std.specs.Prelude.{ℕ, ℤ, Bool, ◌&&◌, List, length, nat_lt, Result, Ok, Err, if◌then◌else◌}
use Rattle.std.specs.Char.{is_ascii_digit}
use Rattle.std.specs.List.{list_all}
use Rattle.std.specs.Str.Parse.{without_leading_sign, signed_digits_value}
use Rattle.support.specs.Limits.{is_in_range}
use Rattle.values.specs.declared.refusal.OperationRefusal.{OperationRefusal}
use Rattle.values.specs.declared.refusal.OperationRefusal.TheVariants as refusal

-- Holds if a text is at most one sign followed by at least one digit.
abbrev pub is_numeral : List ℕ → Bool
is_numeral text = nat_lt 0 (length (without_leading_sign text)) && list_all is_ascii_digit (without_leading_sign text)

-- Returns the integer that a text spells, or the refusal if it spells none or one out of range.
abbrev pub integer_of : List ℕ → Result ℤ OperationRefusal
integer_of text =
    if is_numeral text then (if is_in_range (signed_digits_value 10 text) then Ok (signed_digits_value 10 text) else Err refusal.Range)
    else Err refusal.Arguments
