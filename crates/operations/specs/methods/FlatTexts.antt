-- Reads texts and lists of texts as arguments.
use Rattle.std.specs.Prelude.{ℕ, List, Result, Ok, Err, if◌then◌else◌}
use Rattle.values.specs.declared.refusal.OperationRefusal.{OperationRefusal}
use Rattle.values.specs.declared.refusal.OperationRefusal.TheVariants as refusal
use Rattle.values.specs.Data.{Data}
use Rattle.values.specs.Flat.{are_texts, flat_all}

-- Returns the texts in the arguments, with all lists flattened. Any other value in them is refused.
abbrev pub flat_texts : List Data → Result (List (List ℕ)) OperationRefusal
flat_texts arguments = if are_texts arguments then Ok (flat_all arguments) else Err refusal.Arguments
