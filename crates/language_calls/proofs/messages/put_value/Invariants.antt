use Rattle.std.proofs.Common.{◌≡◌, ◌++◌, length, string_bytes}
use Rattle.values.specs.View.{data_of}
use Rattle.values.specs.printing.Printed.{text_of_value}
use Rattle.values.specs.printing.Pieces.{whole}
use Rattle.language_calls.proofs.messages.put_value.Given as goal

-- what is put and what is left are all
abbrev pub invariant-loop-printer : goal.invariant-loop-printer
invariant-loop-printer l = string_bytes l.text ++ whole l.printer ≡ string_bytes l.initial.text ++ text_of_value (data_of l.value)

abbrev pub decreases-loop-printer : goal.decreases-loop-printer
decreases-loop-printer l = length l.printer
