use Rattle.std.proofs.Common.{take}
use Rattle.std.specs.List.{flat_map}
use Rattle.ports.specs.Endings.{Whole}
use Rattle.ports.specs.Outputs.{Writes, puts}
use Rattle.ninja.specs.Places.{byte_text}
use Rattle.ninja.proofs.escapes.write_each.Given as goal

abbrev pub invariant-loop-byte : goal.invariant-loop-byte
invariant-loop-byte g l = Writes (g.O.Outputs.seen l.fn.out) (flat_map (λ b. puts (byte_text l.place b)) (take l.byte-index l.bytes)) Whole (g.O.Outputs.seen l.out)
