-- Numbers that are out of range.
use Rattle.std.proofs.Common.{◌≡◌, ℕ, ◌<◌, ◌≤◌, ◌^◌, Bool, true, false, List, Some, None, ap, arith}
use Rattle.std.specs.Prelude.{nat_lt, if◌then◌else◌}
use Rattle.std.specs.Option.{option_map}
use Rattle.std.proofs.lemmas.Bool.Decides.{nat_tests}
use Rattle.syntax.specs.lexer.Numerals.{magnitude}
use Rattle.machine_file.specs.Numbers.{integer_of}
use Rattle.options.specs.option_file.Given.{integer, numeral}
use Rattle.options.specs.option_file.Numbers.{past_integers, numeral_value}

pub past_128 : (negative : Bool) (digits : List ℕ) → 2 ^ 127 ≤ magnitude digits → numeral negative digits ≡ None
unfolding past_integers numeral_value
past_128 negative digits h =
    let no : nat_lt (magnitude digits) (2 ^ 127) ≡ false = grind (arith, nat_tests) in
    ap (λ (b : Bool). option_map integer (if b then Some (integer_of negative (magnitude digits)) else None)) no

pub in_128 : (negative : Bool) (digits : List ℕ) → magnitude digits < 2 ^ 127
    → numeral negative digits ≡ Some (integer (integer_of negative (magnitude digits)))
unfolding past_integers numeral_value
in_128 negative digits h =
    let yes : nat_lt (magnitude digits) (2 ^ 127) ≡ true = grind (arith, nat_tests) in
    ap (λ (b : Bool). option_map integer (if b then Some (integer_of negative (magnitude digits)) else None)) yes
