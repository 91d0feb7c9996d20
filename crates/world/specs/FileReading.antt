-- Says how reading a file may stop.
use Rattle.std.specs.Prelude.{Result, Ok, Err}
use Rattle.world.specs.declared.stop.Stop.{Stop}
use Rattle.world.specs.declared.stop.Stop.TheVariants as stops

-- Holds if reading ended with a value, stopped at a device, or ran out of memory.
abbrev pub IsNoFault : {B : Type 0} → Result B Stop → Type 0
IsNoFault (Ok x) = Unit {0}
IsNoFault (Err (stops.Refused fault)) = ⊥
IsNoFault (Err stops.Device) = Unit {0}
IsNoFault (Err stops.Memory) = Unit {0}
