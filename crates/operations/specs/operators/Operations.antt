-- Defines the operators by two tables: the first gives the result of an operation, the second the reason if there is none.
use Rattle.std.specs.Prelude.{Bool, true, false, not, ◌||◌, Option, Some, None, option_map, Result, Ok, Err, if◌then◌else◌}
use Rattle.std.specs.Ordering.{is_lt, is_le, is_gt, is_ge}
use Rattle.values.specs.declared.object.Object.TheVariants as TheObject
use Rattle.values.specs.declared.refusal.OperationRefusal.{OperationRefusal}
use Rattle.values.specs.declared.refusal.OperationRefusal.TheVariants as refusal
use Rattle.values.specs.Data.{Data, boolean, integer, object, is_disabler}
use Rattle.values.specs.Limits.{within}
use Rattle.operations.specs.declared.operators.operator.Unary.{Unary}
use Rattle.operations.specs.declared.operators.operator.Unary.TheVariants.{Not, Negate}
use Rattle.operations.specs.declared.operators.operator.Binary.{Binary}
use Rattle.operations.specs.declared.operators.operator.Binary.TheVariants.{Add, Subtract, Multiply, Divide, Remainder, Equal, NotEqual}
use Rattle.operations.specs.declared.operators.operator.Binary.TheVariants.{Less}
use Rattle.operations.specs.declared.operators.operator.Binary.TheVariants.{LessOrEqual, Greater, GreaterOrEqual, In, NotIn}
use Rattle.operations.specs.operators.Rows as rows

-- Returns the result of an operator with one operand, if there is one.
abbrev pub unary_value : Unary → Data → Option Data
unary_value Not d = rows.negation d
unary_value Negate d = rows.opposite d

-- Returns the result of an operator with two operands, if there is one.
abbrev pub binary_value : Binary → Data → Data → Option Data
binary_value Add d e = rows.sum d e
binary_value Subtract d e = rows.difference d e
binary_value Multiply d e = rows.product d e
binary_value Divide d e = rows.quotient d e
binary_value Remainder d e = rows.remainder d e
binary_value Equal d e = option_map boolean (rows.equality d e)
binary_value NotEqual d e = option_map boolean (option_map not (rows.equality d e))
binary_value Less d e = option_map boolean (option_map is_lt (rows.order d e))
binary_value LessOrEqual d e = option_map boolean (option_map is_le (rows.order d e))
binary_value Greater d e = option_map boolean (option_map is_gt (rows.order d e))
binary_value GreaterOrEqual d e = option_map boolean (option_map is_ge (rows.order d e))
binary_value In d e = option_map boolean (rows.membership d e)
binary_value NotIn d e = option_map boolean (option_map not (rows.membership d e))

-- Returns the refusal: E7 for an integer whose opposite is out of range, and otherwise E6.
abbrev pub unary_refusal : Unary → Data → OperationRefusal
unary_refusal Negate (integer z) = refusal.Range
unary_refusal _ _ = refusal.Type

-- Returns the refusal: E7 for integers whose result is out of range or whose divisor is zero, and otherwise E6.
abbrev pub binary_refusal : Binary → Data → Data → OperationRefusal
binary_refusal In d e = refusal.Type
binary_refusal NotIn d e = refusal.Type
binary_refusal operator (integer x) (integer y) = refusal.Range
binary_refusal operator d e = refusal.Type

-- Returns the result of an operation if it is within the limits, or the refusal.
abbrev pub answer : Option Data → OperationRefusal → Result Data OperationRefusal
answer (Some d) otherwise = within d
answer None otherwise = Err otherwise

-- Returns the result of an operator with one operand, or its refusal.
abbrev pub unary_outcome : Unary → Data → Result Data OperationRefusal
unary_outcome operator d = answer (unary_value operator d) (unary_refusal operator d)

-- Returns the result of an operator with two operands, or its refusal.
abbrev pub binary_outcome : Binary → Data → Data → Result Data OperationRefusal
binary_outcome operator d e = answer (binary_value operator d e) (binary_refusal operator d e)

-- Returns the value of a disabler.
abbrev pub disabler : Data
disabler = object TheObject.Disabler

-- Returns the result of an operator with one operand. A disabler as operand gives a disabler.
abbrev pub unary_answer : Unary → Data → Result Data OperationRefusal
unary_answer operator d = if is_disabler d then Ok disabler else unary_outcome operator d

-- Returns the result of an operator with two operands. A disabler as operand gives a disabler.
abbrev pub binary_answer : Binary → Data → Data → Result Data OperationRefusal
binary_answer operator d e = if is_disabler d || is_disabler e then Ok disabler else binary_outcome operator d e

-- Holds if both values are integers.
abbrev pub are_integers : Data → Data → Bool
are_integers (integer x) (integer y) = true
are_integers _ _ = false
