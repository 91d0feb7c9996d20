-- Defines how functions and methods are looked up and called by their names.
use Rattle.std.specs.Prelude.{ℕ, Bool, true, false, List, Option, Some, None, ok_or, Result, Ok, Err}
use Rattle.arguments.specs.Arguments.{ArgumentsData}
use Rattle.arguments.specs.Disablers.{gives_disabler}
use Rattle.arguments.specs.Rows.{any_values}
use Rattle.language_calls.specs.Turning.{is_turned_off}
use Rattle.expressions.specs.Details.{method_detail}
use Rattle.expressions.specs.Forms.{disabler_method}
use Rattle.interp.specs.Functions.{call}
use Rattle.methods.specs.Left.{is_left_out as is_left_out_method}
use Rattle.methods.specs.Methods.{has_method as has_object_method, object_method}
use Rattle.operations.specs.methods.Methods.{answer as method_answer, has_name}
use Rattle.operations.specs.operators.Operations.{disabler}
use Rattle.support.specs.declared.faults.refusal.Refusal.{Refusal}
use Rattle.support.specs.declared.faults.refusal.Refusal.TheVariants as refusals
use Rattle.values.specs.Data.{Data, is_disabler, object_in}
use Rattle.values.specs.declared.language_names.functions.Function.{Function}
use Rattle.values.specs.declared.object.Object.{Object}
use Rattle.values.specs.declared.refusal.OperationRefusal.{OperationRefusal as OperationRefusal}
use Rattle.values.specs.language_names.Functions.{function_named}
use Rattle.values.specs.language_names.Names.{is_left_out}
use Rattle.world.specs.Deed.{Deed, give, refuse, ◌>>=◌}
use Rattle.world.specs.Fit.{fit}
use Rattle.world.specs.Operation.{of_operation}

-- ---- what a name names

-- Returns the refusal of a name that names nothing: E23 if the manual has it and it is left out, else E8.
abbrev pub refusal_of_name : Bool → Refusal
refusal_of_name true = refusals.LeftOut
refusal_of_name false = refusals.UnknownFunction

-- Returns the function with a name.
abbrev pub function_of : List ℕ → Result Function Refusal
function_of name = ok_or (function_named name) (refusal_of_name (is_left_out name))

-- Succeeds if there is a method with a name, or refuses the name, given whether it is left out.
abbrev pub known_name : Bool → Bool → Result (Unit {0}) Refusal
known_name true left_out = Ok tt
known_name false left_out = Err (refusal_of_name left_out)

-- Looks up a method of an object or of a plain value. No method of a plain value is left out.
abbrev pub method_in : Option Object → Data → List ℕ → Result (Unit {0}) Refusal
method_in (Some o) d name = known_name (has_object_method o name) (is_left_out_method o name)
method_in None d name = known_name (has_name d name) false

-- Looks up a method of a receiver, given whether that is a disabler.
abbrev pub method_by : Bool → Data → List ℕ → Result (Unit {0}) Refusal
method_by true d name = Ok tt
method_by false d name = method_in (object_in d) d name

-- Looks up a method of a receiver. A disabler has every method.
abbrev pub method_of : Data → List ℕ → Result (Unit {0}) Refusal
method_of d name = method_by (is_disabler d) d name

-- Returns a result without its value.
abbrev pub result_without_value : {A : Type 0} → Result A Refusal → Result (Unit {0}) Refusal
result_without_value (Ok a) = Ok tt
result_without_value (Err refusal) = Err refusal

-- Looks up a function, or a method of the receiver if there is one.
abbrev pub lookup : Option Data → List ℕ → Result (Unit {0}) Refusal
lookup None name = result_without_value (function_of name)
lookup (Some d) name = method_of d name

-- ---- the call

-- Returns a disabler if the call is turned off, and else calls the function.
abbrev pub function_called_by : Bool → Function → ArgumentsData → Deed (Option Data)
function_called_by true f a = give (Some disabler)
function_called_by false f a = call f a

-- Calls a function on evaluated arguments. A disabler among them turns the call off.
abbrev pub function_called : Function → ArgumentsData → Deed (Option Data)
function_called f a = function_called_by (is_turned_off f a) f a

-- Returns the value of a method, or its refusal with details.
abbrev pub answered_with : (OperationRefusal → List ℕ) → Result Data OperationRefusal → Deed Data
answered_with detail (Ok d) = give d
answered_with detail (Err refusal) = refuse (of_operation refusal) (detail refusal)

-- Returns the value of a method of a plain value, or refuses with its details.
abbrev pub method_answered : Data → List ℕ → List Data → Deed Data
method_answered d name ds = answered_with (method_detail d name ds) (method_answer d name ds)

-- Calls a method of a plain value, which takes values of any kind and number, and no keyword.
unfoldable pub value_method : Data → List ℕ → ArgumentsData → Deed (Option Data)
value_method d name a = do
  _ ← fit any_values a
  e ← method_answered d name a.positional
  give (Some e)

-- Calls a method of an object or of a plain value.
abbrev pub method_called_on : Option Object → Data → List ℕ → ArgumentsData → Deed (Option Data)
method_called_on (Some o) d name a = object_method o name a
method_called_on None d name a = value_method d name a

-- Returns a disabler if one is among the arguments, and else calls the method.
abbrev pub method_called_unless : Bool → Data → List ℕ → ArgumentsData → Deed (Option Data)
method_called_unless true d name a = give (Some disabler)
method_called_unless false d name a = method_called_on (object_in d) d name a

-- Calls a method of a receiver, given whether that is a disabler.
abbrev pub method_called_by : Bool → Data → List ℕ → ArgumentsData → Deed (Option Data)
method_called_by true d name a = give (Some (disabler_method name a))
method_called_by false d name a = method_called_unless (gives_disabler a) d name a

-- Calls a method of a receiver on evaluated arguments.
abbrev pub method_called : Data → List ℕ → ArgumentsData → Deed (Option Data)
method_called d name a = method_called_by (is_disabler d) d name a

-- Calls a function that was looked up, or refuses its name.
abbrev pub function_call : Result Function Refusal → List ℕ → ArgumentsData → Deed (Option Data)
function_call (Ok f) name a = function_called f a
function_call (Err refusal) name a = refuse refusal name

-- Calls a method that was looked up, or refuses its name.
abbrev pub method_call : Result (Unit {0}) Refusal → Data → List ℕ → ArgumentsData → Deed (Option Data)
method_call (Ok u) d name a = method_called d name a
method_call (Err refusal) d name a = refuse refusal name

-- Calls a function or a method by its name: looks the name up, then calls it on evaluated arguments.
abbrev pub call_by_name : Option Data → List ℕ → ArgumentsData → Deed (Option Data)
call_by_name None name a = function_call (function_of name) name a
call_by_name (Some d) name a = method_call (method_of d name) d name a
