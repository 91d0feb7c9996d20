-- Defines how an f-string is filled, piece by piece.
use Rattle.std.specs.Prelude.{◌≡◌, ℕ, Bool, true, false, List, ◌++◌, Result, Ok}
use Rattle.values.specs.Data.{Data}
use Rattle.values.specs.Limits.{within_bytes}
use Rattle.values.specs.declared.refusal.OperationRefusal.{OperationRefusal}
use Rattle.values.specs.printing.Printed.{is_plain, printed_value, text_of_value}

-- Holds if a value was appended to a text, which may be too long then, or if the value may not be in an f-string.
abbrev pub Puts : Data → (before : List ℕ) → (made : Result (List ℕ) OperationRefusal) → (done : Bool) → Type 0
Puts d before made true = (is_plain d ≡ true) × (printed_value d ≡ Ok (text_of_value d)) × (made ≡ within_bytes (before ++ text_of_value d))
Puts d before made false = is_plain d ≡ false
