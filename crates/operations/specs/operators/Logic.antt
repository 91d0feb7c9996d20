-- Defines `and` and `or`, whose left side may decide alone: "Logical operations" of the page "Syntax".
use Rattle.std.specs.Prelude.{◌≡◌, true, false, Option, Some, None, Result, Ok, Err}
use Rattle.values.specs.declared.object.Object.TheVariants as TheObject
use Rattle.values.specs.declared.refusal.OperationRefusal.{OperationRefusal}
use Rattle.values.specs.declared.refusal.OperationRefusal.TheVariants as refusal
use Rattle.values.specs.Data.{Data, boolean, object}
use Rattle.values.specs.View.{data_of}
use Rattle.operations.specs.declared.operators.operator.Connective.{Connective}
use Rattle.operations.specs.declared.operators.operator.Connective.TheVariants.{And, Or}
use Rattle.operations.specs.declared.operators.logic.Left.{Left}
use Rattle.operations.specs.declared.operators.logic.Left.TheVariants as left
use Rattle.operations.specs.operators.Operations.{disabler}

-- Returns the result of `and` or `or` if its left side decides it, so that the right side is skipped, and `None` if the right side decides.
abbrev pub left_answer : Connective → Data → Result (Option Data) OperationRefusal
left_answer And (boolean false) = Ok (Some (boolean false))
left_answer And (boolean true) = Ok None
left_answer Or (boolean true) = Ok (Some (boolean true))
left_answer Or (boolean false) = Ok None
left_answer connective (object TheObject.Disabler) = Ok (Some disabler)
left_answer connective d = Err refusal.Type

-- Returns the result of `and` or `or` if the right side decides.
abbrev pub right_answer : Data → Result Data OperationRefusal
right_answer (boolean b) = Ok (boolean b)
right_answer (object TheObject.Disabler) = Ok disabler
right_answer d = Err refusal.Type

-- Holds if the call decided as the definition does: the value of the whole, that the right side decides, or the refusal.
abbrev pub LeftAnswers : Connective → Data → Result Left OperationRefusal → Type 0
LeftAnswers connective d (Ok (left.Decides v)) = left_answer connective d ≡ Ok (Some (data_of v))
LeftAnswers connective d (Ok left.Open) = left_answer connective d ≡ Ok None
LeftAnswers connective d (Err r) = left_answer connective d ≡ Err r
