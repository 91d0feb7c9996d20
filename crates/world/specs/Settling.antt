-- Relates the result of a call to that of one of its parts.
use Rattle.std.specs.Prelude.{◌≡◌, ℕ, List, Result, Ok, Err}
use Rattle.arguments.specs.declared.rule.Rule.{Rule}
use Rattle.arguments.specs.declared.stop.CallStop.{CallStop}
use Rattle.arguments.specs.declared.stop.CallStop.TheVariants as call_stops
use Rattle.world.specs.Answering.{IsAnswered, IsAnsweredBy, IsPassed}
use Rattle.world.specs.World.{World}
use Rattle.world.specs.declared.stop.Stop.{Stop}
use Rattle.world.specs.declared.stop.Stop.TheVariants as stops

-- Holds if the call passed on the value of a part, or its refusal, or that memory ran out.
abbrev pub IsSettled : {B : Type 0} → World → Result B CallStop → Result B Stop → Type 0
IsSettled w (Ok x) result = result ≡ Ok x
IsSettled w (Err (call_stops.Arguments refused)) result = IsPassed w (Err refused) result
IsSettled w (Err (call_stops.Operation refusal)) result = IsAnswered w (Err refusal) result
IsSettled w (Err call_stops.Memory) result = result ≡ Err stops.Memory

-- Holds if the call passed on the value of a part, or its refusal, or that memory ran out. A refusal of an operation's arguments names this
-- rule.
abbrev pub IsSettledBy : {B : Type 0} → World → Rule → List ℕ → Result B CallStop → Result B Stop → Type 0
IsSettledBy w rule text (Ok x) result = result ≡ Ok x
IsSettledBy w rule text (Err (call_stops.Arguments refused)) result = IsPassed w (Err refused) result
IsSettledBy w rule text (Err (call_stops.Operation refusal)) result = IsAnsweredBy w rule text (Err refusal) result
IsSettledBy w rule text (Err call_stops.Memory) result = result ≡ Err stops.Memory
