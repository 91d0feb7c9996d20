-- Defines which call of a device in memory fails, and how many bytes a call takes.
use Rattle.std.specs.Prelude.{ℕ, ◌-◌, ◌==◌, ◌&&◌, Bool, true, false, Option, Some, None, if◌then◌else◌}
use Rattle.ports.specs.declared.memory.plan.TreeCall.{TreeCall}
use Rattle.ports.specs.declared.memory.plan.TreeCall.TheVariants.{Size, ReadAt, Any as AnyOfTree}
use Rattle.ports.specs.declared.memory.plan.OutputCall.{OutputCall}
use Rattle.ports.specs.declared.memory.plan.OutputCall.TheVariants.{Open, Put, Close, Log, Fault, Any}

-- A call takes at most `piece` bytes. The call with this number among the next calls of this kind fails; with 0 no call fails.
pub record Planned (C : Type 0) : Type 0 where
  pub piece : ℕ
  pub kind : C
  pub number : ℕ

-- Returns the plan with this piece, and with the call, given by kind and number, that fails.
abbrev pub device_plan : {C : Type 0} → C → ℕ → Option (C × ℕ) → Planned C
device_plan any piece None = record { piece = piece; kind = any; number = 0 }
device_plan any piece (Some call) = record { piece = piece; kind = call.0; number = call.1 }

-- Returns whether the kind includes this call.
abbrev pub is_tree_call : TreeCall → TreeCall → Bool
is_tree_call AnyOfTree call = true
is_tree_call Size Size = true
is_tree_call ReadAt ReadAt = true
is_tree_call kind call = false

-- Returns whether the kind includes this call. `Any` includes each call.
abbrev pub is_output_call : OutputCall → OutputCall → Bool
is_output_call Any call = true
is_output_call Open Open = true
is_output_call Put Put = true
is_output_call Close Close = true
is_output_call Log Log = true
is_output_call Fault Fault = true
is_output_call kind call = false

-- Returns whether a call fails, given whether it counts and the number of the call that fails.
abbrev pub is_due : Bool → ℕ → Bool
is_due counts number = counts && (number == 1)

-- Returns the number of the call that fails, after such a call.
abbrev pub number_after : Bool → ℕ → ℕ
number_after counts number = if counts then number - 1 else number
