-- Defines how a call of a device ends, and what it counts.
use Rattle.std.specs.Prelude.{ℕ, ◌+◌, ◌^◌, ◌<◌, Bool, true, false, Result, Ok, Err}
use Rattle.ports.specs.declared.fault.DeviceFault.{DeviceFault}

-- A call did everything (`Whole`), its device failed (`Failed`), or it ended early for another reason (`Short`).
pub data Ending : Type 0 where
  Whole : Ending
  Failed : Ending
  Short : Ending

-- Returns the ending of a call whose only error is that of a device.
abbrev pub ending_of_result : {T : Type 0} → Result T DeviceFault → Ending
ending_of_result (Ok x) = Whole
ending_of_result (Err e) = Failed

-- Returns whether a call did everything.
abbrev pub is_whole : Ending → Bool
is_whole Whole = true
is_whole Failed = false
is_whole Short = false

-- Returns the count of a device's failures after a call with this ending.
abbrev pub failures_after : ℕ → Ending → ℕ
failures_after n Whole = n
failures_after n Failed = n + 1
failures_after n Short = n

-- Holds if one more failure can be counted in 64 bits. Each call of a device requires it.
abbrev pub HasRoom : ℕ → Type 0
HasRoom failures = failures + 1 < 2 ^ 64
