-- Defines the details of refusals of operations on values.
use Rattle.std.specs.Prelude.{ℕ, List, [], ◌++◌, codes}
use Rattle.arguments.specs.Words.{values_words}
use Rattle.values.specs.Data.{Data}
use Rattle.values.specs.declared.refusal.OperationRefusal.{OperationRefusal}
use Rattle.values.specs.declared.refusal.OperationRefusal.TheVariants as operation
use Rattle.operations.specs.methods.Takes.{takes_words}

-- Returns what the method with this name takes, and what it got.
abbrev pub method_words : Data → List ℕ → List Data → List ℕ
method_words d name ds = name ++ (codes ": takes " ++ (takes_words d name ++ (codes ", and got " ++ values_words ds)))

-- Returns what a method takes and what it got if its arguments are refused, and nothing for other refusals.
abbrev pub method_detail : Data → List ℕ → List Data → OperationRefusal → List ℕ
method_detail d name ds operation.Arguments = method_words d name ds
method_detail d name ds _ = []

-- Returns the detail that this key of a dictionary occurs twice.
abbrev pub key_twice : List ℕ → List ℕ
key_twice key = codes "key '" ++ (key ++ codes "': occurs twice")
