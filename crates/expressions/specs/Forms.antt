-- Defines what expressions evaluate to, given the values of their parts, and what names evaluate to: the page "Syntax" of the Meson manual.
use Rattle.std.specs.Prelude.{ℕ, pos, ◌^◌, nat_lt, Bool, true, false, ◌||◌, ◌&&◌, List, [], ◌∷◌, ◌++◌, Option, Some, None, Result, Ok}
use Rattle.std.specs.Prelude.{Err, bytes_eq, codes, if◌then◌else◌}
use Rattle.syntax.specs.lexer.Texts.{text_of}
use Rattle.syntax.specs.lexer.Numerals.{magnitude}
use Rattle.syntax.specs.declared.lexer.token.TokenKind.TheVariants as kinds
use Rattle.syntax.specs.declared.tree.Literal.{Literal}
use Rattle.syntax.specs.declared.tree.Literal.TheVariants as literals
use Rattle.syntax.specs.declared.tree.Operator.{Operator}
use Rattle.syntax.specs.declared.tree.Operator.TheVariants as operators
use Rattle.syntax.specs.declared.tree.Prefix.{Prefix}
use Rattle.syntax.specs.declared.tree.Prefix.TheVariants as prefixes
use Rattle.values.specs.declared.object.Object.{Object}
use Rattle.values.specs.declared.object.Object.TheVariants as objects
use Rattle.values.specs.declared.refusal.OperationRefusal.{OperationRefusal as OperationRefusal}
use Rattle.values.specs.declared.refusal.OperationRefusal.TheVariants as operation
use Rattle.values.specs.Data.{Data, boolean, integer, text, list, Items}
use Rattle.values.specs.Limits.{within}
use Rattle.support.specs.declared.faults.refusal.Refusal.TheVariants as refusals
use Rattle.values.specs.printing.Printed.{is_plain, printed_value}
use Rattle.values.specs.declared.texts.placeholders.Places.TheVariants as places
use Rattle.values.specs.texts.Segments.{Segment, text as between, place, segments}
use Rattle.operations.specs.declared.operators.operator.Unary.{Unary}
use Rattle.operations.specs.declared.operators.operator.Unary.TheVariants.{Not, Negate}
use Rattle.operations.specs.declared.operators.operator.Binary.TheVariants as binaries
use Rattle.operations.specs.declared.operators.operator.Connective.TheVariants.{And, Or}
use Rattle.operations.specs.operators.Operations.{unary_answer, binary_answer, disabler}
use Rattle.operations.specs.operators.Logic.{left_answer, right_answer}
use Rattle.operations.specs.operators.Index.{index_answer}
use Rattle.operations.specs.operators.Literal.{literal_answer}
use Rattle.operations.specs.declared.operators.literal.LiteralRefusal.{LiteralRefusal}
use Rattle.operations.specs.declared.operators.literal.LiteralRefusal.TheVariants as literal_refusals
use Rattle.operations.specs.methods.Methods.{answer as method_answer}
use Rattle.arguments.specs.Arguments.{ArgumentsData}
use Rattle.arguments.specs.Misfits.{arguments_check}
use Rattle.values.specs.language_names.Functions.{function_named}
use Rattle.values.specs.language_names.Names.{is_left_out, is_predefined, predefined_value}
use Rattle.arguments.specs.Rows.{any_values}
use Rattle.values.specs.declared.language_names.functions.Function.{Function}
use Rattle.values.specs.declared.language_names.functions.Function.TheVariants as functions
use Rattle.world.specs.Deed.{read}
use Rattle.world.specs.Operation.{of_operation}
use Rattle.world.specs.Plan.{Plan, deed, ◌>>=◌, give, refuse, answer_at_line}
use Rattle.arguments.specs.Refused.{RefusedData}
use Rattle.expressions.specs.Details.{key_twice, method_detail}
use Rattle.expressions.specs.declared.meaning.InfixOperator.{InfixOperator}
use Rattle.expressions.specs.declared.meaning.InfixOperator.TheVariants.{Combines, Connects}

-- ---- names

-- Refuses this name, which is not supported.
abbrev pub left_out : {A : Type 0} → ℕ → List ℕ → Plan A
left_out line name = refuse line refusals.LeftOut name

-- Returns the value of a variable, and refuses one without a value (E5).
abbrev pub known_value : ℕ → List ℕ → Option Data → Plan Data
known_value line name (Some d) = give d
known_value line name None = refuse line refusals.UndefinedName name

-- Returns the value of a variable that definition files assign.
abbrev pub set_variable : ℕ → List ℕ → Plan Data
set_variable line name = do
  facts ← deed read
  known_value line name (facts.variables name)

-- Returns the object of a predefined variable.
abbrev pub predefined_object : List ℕ → Plan Data
predefined_object name = give (predefined_value name)

-- Returns the value of a name, by whether the name is predefined.
abbrev pub variable_by : Bool → ℕ → List ℕ → Plan Data
variable_by true line name = predefined_object name
variable_by false line name = set_variable line name

-- Returns the value of a name: that of the variable, or the object if the name is predefined.
abbrev pub variable : ℕ → List ℕ → Plan Data
variable line name = variable_by (is_predefined name) line name

-- ---- f-strings

-- Prints a value of an f-string. Refuses any but a boolean, an integer or a text.
abbrev pub printed_plain : ℕ → Bool → Data → Plan (List ℕ)
printed_plain line true d = answer_at_line line (printed_value d)
printed_plain line false d = refuse line refusals.Type []

-- Returns the text of a placeholder of an f-string: the printed value of the variable.
abbrev pub at_place : ℕ → List ℕ → Plan (List ℕ)
at_place line name = do
  d ← variable line name
  printed_plain line (is_plain d) d

-- Returns the text of a part of an f-string. Text between placeholders stays as it is.
abbrev pub part_text : ℕ → Segment → Plan (List ℕ)
part_text line (between t) = give t
part_text line (place name) = at_place line name

-- Returns the text so far, followed by the text of the remaining parts.
abbrev pub filled_format_string : ℕ → List ℕ → List Segment → Plan Data
filled_format_string line made [] = answer_at_line line (within (text made))
filled_format_string line made (s ∷ ss) = do
  t ← part_text line s
  filled_format_string line (made ++ t) ss

-- Returns the value of an f-string after its escapes are decoded. Its placeholders `@name@` are filled from the left, and the filled text
-- is not scanned again.
abbrev pub format_string : ℕ → List ℕ → Plan Data
format_string line t = filled_format_string line [] (segments places.Names t)

-- ---- literals

-- Returns an integer literal if it is in the range of integers.
abbrev pub number : ℕ → Result Data OperationRefusal
number n = if nat_lt n (2 ^ 127) then Ok (integer (pos n)) else Err operation.Range

-- Returns the value of a literal: a boolean, a number, or a string with or without escapes, which may be an f-string.
abbrev pub literal_value : ℕ → Literal → List ℕ → Plan Data
literal_value line literals.True t = give (boolean true)
literal_value line literals.False t = give (boolean false)
literal_value line literals.Number t = answer_at_line line (number (magnitude t))
literal_value line literals.String t = answer_at_line line (within (text (text_of kinds.String t)))
literal_value line literals.RawString t = answer_at_line line (within (text (text_of kinds.RawString t)))
literal_value line literals.FormatString t = format_string line (text_of kinds.FormatString t)
literal_value line literals.RawFormatString t = format_string line (text_of kinds.RawFormatString t)

-- ---- operators

-- Returns what an operator in a chain does.
abbrev pub meaning_of : Operator → InfixOperator
meaning_of operators.Or = Connects Or
meaning_of operators.And = Connects And
meaning_of operators.Equal = Combines binaries.Equal
meaning_of operators.NotEqual = Combines binaries.NotEqual
meaning_of operators.Less = Combines binaries.Less
meaning_of operators.LessOrEqual = Combines binaries.LessOrEqual
meaning_of operators.Greater = Combines binaries.Greater
meaning_of operators.GreaterOrEqual = Combines binaries.GreaterOrEqual
meaning_of operators.In = Combines binaries.In
meaning_of operators.NotIn = Combines binaries.NotIn
meaning_of operators.Add = Combines binaries.Add
meaning_of operators.Subtract = Combines binaries.Subtract
meaning_of operators.Multiply = Combines binaries.Multiply
meaning_of operators.Divide = Combines binaries.Divide
meaning_of operators.Remainder = Combines binaries.Remainder

-- Returns the left side if it decides, and otherwise what the right side decides.
abbrev pub unless_decided : ℕ → Option Data → Plan Data → Plan Data
unless_decided line (Some d) right = give d
unless_decided line None right = do
  e ← right
  answer_at_line line (right_answer e)

-- Returns the result of an operator for a value and a right side that is still to be evaluated.
abbrev pub operator_value : ℕ → InfixOperator → Data → Plan Data → Plan Data
operator_value line (Combines operator) d right = do
  e ← right
  answer_at_line line (binary_answer operator d e)
operator_value line (Connects connective) d right = do
  whole ← answer_at_line line (left_answer connective d)
  unless_decided line whole right

-- Returns the operator of a prefix.
abbrev pub unary_of : Prefix → Unary
unary_of prefixes.Not = Not
unary_of prefixes.Negative = Negate

-- Returns a disabler if the condition of a ternary is one, and otherwise refuses it, since it is not a boolean.
abbrev pub disabled_ternary : ℕ → Bool → Plan Data
disabled_ternary line true = give disabler
disabled_ternary line false = refuse line refusals.Type []

-- Returns the value of a ternary, by the boolean of its condition, if it is one, and by whether the condition is a disabler.
abbrev pub ternary_value : ℕ → Option Bool → Bool → Plan Data → Plan Data → Plan Data
ternary_value line (Some true) disabled one other = one
ternary_value line (Some false) disabled one other = other
ternary_value line None disabled one other = disabled_ternary line disabled

-- ---- forms, by the values of their parts

-- Returns the value of a list literal.
abbrev pub list_value : ℕ → Items → Plan Data
list_value line ds = answer_at_line line (within (list ds))

-- Returns the value of a dictionary literal, or its refusal. For a key that occurs twice, the detail is that key.
abbrev pub paired_by : ℕ → Result Data LiteralRefusal → Plan Data
paired_by line (Ok d) = give d
paired_by line (Err (literal_refusals.Twice key)) = refuse line refusals.Duplicate (key_twice key)
paired_by line (Err (literal_refusals.Refused refusal)) = refuse line (of_operation refusal) []

-- Returns the value of a dictionary literal.
abbrev pub dictionary_value : ℕ → List (Data × Data) → Plan Data
dictionary_value line ps = paired_by line (literal_answer ps)

-- Returns the value of a prefix operator with its operand.
abbrev pub prefix_value : ℕ → Prefix → Data → Plan Data
prefix_value line prefix d = answer_at_line line (unary_answer (unary_of prefix) d)

-- Returns the part of a value at an index or key.
abbrev pub part_at : ℕ → Data → Data → Plan (Option Data)
part_at line d i = do
  part ← answer_at_line line (index_answer d i)
  give (Some part)

-- ---- calls

-- Refuses a call without a value as an expression.
abbrev pub needed_value : ℕ → Option Data → Plan Data
needed_value line (Some d) = give d
needed_value line None = refuse line refusals.Type []

-- Refuses the name of a function: with E23 if it is not supported, and otherwise with E8.
abbrev pub refused_name : {A : Type 0} → ℕ → List ℕ → Bool → Plan A
refused_name line name true = left_out line name
refused_name line name false = refuse line refusals.UnknownFunction name

-- Returns a function, and refuses an unknown one.
abbrev pub known_function : ℕ → List ℕ → Option Function → Plan Function
known_function line name (Some f) = give f
known_function line name None = refused_name line name (is_left_out name)

-- Returns the function with a name.
abbrev pub function_at : ℕ → List ℕ → Plan Function
function_at line name = known_function line name (function_named name)

-- Holds if a function may be called before `project`, that is in the arguments of `project`.
abbrev pub may_come_first : Function → Bool
may_come_first functions.Disabler = true
may_come_first functions.SubdirDone = true
may_come_first f = false

-- Refuses with E13 unless a call is allowed.
abbrev pub allowed_call : ℕ → Bool → Plan (Unit {0})
allowed_call line true = give tt
allowed_call line false = refuse line refusals.ProjectCall []

-- Returns the function of a call that is part of an expression.
abbrev pub function_inside : ℕ → List ℕ → Plan Function
function_inside line name = do
  f ← function_at line name
  facts ← deed read
  _ ← allowed_call line (facts.is_begun || may_come_first f)
  give f

-- Passes on the result of a check of arguments, or refuses at a line, with its detail.
abbrev pub check_at_line : ℕ → Result (Unit {0}) RefusedData → Plan (Unit {0})
check_at_line line (Ok u) = give tt
check_at_line line (Err refused) = refuse line refused.refusal refused.detail

-- ---- methods

-- Holds if there are neither positional nor keyword arguments.
abbrev pub are_none : List Data → List (List ℕ × Data) → Bool
are_none [] [] = true
are_none _ _ = false

-- Holds if there are no arguments.
abbrev pub is_empty : ArgumentsData → Bool
is_empty a = are_none a.positional a.named

-- Returns the result of a method of a disabler: `found()` is false, and any other method returns a disabler.
abbrev pub disabler_method : List ℕ → ArgumentsData → Data
disabler_method name a = if bytes_eq name (codes "found") && is_empty a then boolean false else disabler

-- Refuses an unknown method (E8).
abbrev pub known_method : Bool → ℕ → List ℕ → Plan (Unit {0})
known_method true line name = give tt
known_method false line name = refuse line refusals.UnknownFunction name

-- Holds if an object's methods may be called before `project`, that is in the arguments of `project`. Those of `meson` may not.
abbrev pub may_be_asked_first : Object → Bool
may_be_asked_first objects.Meson = false
may_be_asked_first o = true

-- Refuses a method of an object that may not be called before `project` (E13).
abbrev pub asked_of : ℕ → Object → Plan (Unit {0})
asked_of line o = do
  facts ← deed read
  allowed_call line (facts.is_begun || may_be_asked_first o)

-- Returns the value of an operation, or refuses at a line, with its detail.
abbrev pub answered_with : {A : Type 0} → ℕ → (OperationRefusal → List ℕ) → Result A OperationRefusal → Plan A
answered_with line detail (Ok a) = give a
answered_with line detail (Err refusal) = refuse line (of_operation refusal) (detail refusal)

-- Returns the result of a method of a value.
abbrev pub method_answered : ℕ → Data → List ℕ → List Data → Plan Data
method_answered line d name ds = answered_with line (method_detail d name ds) (method_answer d name ds)

-- Calls a method of a value other than an object.
abbrev pub value_method : ℕ → Data → List ℕ → ArgumentsData → Plan (Option Data)
value_method line d name a = do
  _ ← check_at_line line (arguments_check any_values a)
  e ← method_answered line d name a.positional
  give (Some e)
