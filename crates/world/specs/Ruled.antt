-- Defines rules for arguments that no row expresses (E9), and what breaks them.
use Rattle.std.specs.Prelude.{ℕ, Bool, List, [], Option, Some, None, Result, Ok, Err}
use Rattle.arguments.specs.Rules.{breach_message}
use Rattle.arguments.specs.declared.rule.Rule.{Rule}
use Rattle.support.specs.declared.faults.refusal.Refusal.TheVariants as refusals
use Rattle.values.specs.declared.refusal.OperationRefusal.{OperationRefusal as OperationRefusal}
use Rattle.values.specs.declared.refusal.OperationRefusal.TheVariants as operation
use Rattle.world.specs.Deed.{Deed, give, need, refuse}
use Rattle.world.specs.Operation.{of_operation}

-- Succeeds if a condition is true, and otherwise refuses: this text, or the keyword with this name, breaks the rule.
unfoldable pub obeyed_rule : Bool → Rule → List ℕ → Deed (Unit {0})
obeyed_rule is_so rule text = need is_so refusals.Arguments (breach_message rule text)

-- Returns the value that was found, and otherwise refuses: this text breaks the rule.
unfoldable pub ruled_value : {A : Type 0} → Option A → Rule → List ℕ → Deed A
ruled_value (Some a) rule text = give a
ruled_value None rule text = refuse refusals.Arguments (breach_message rule text)

-- Returns the detail of an operation's refusal: that this text breaks the rule, if its arguments are refused.
abbrev pub broken_by : Rule → List ℕ → OperationRefusal → List ℕ
broken_by rule text operation.Arguments = breach_message rule text
broken_by rule text _ = []

-- Returns the value of an operation, or its refusal. If its arguments are refused, this text breaks the rule.
unfoldable pub answered_by : {A : Type 0} → Rule → List ℕ → Result A OperationRefusal → Deed A
answered_by rule text (Ok a) = give a
answered_by rule text (Err refusal) = refuse (of_operation refusal) (broken_by rule text refusal)
