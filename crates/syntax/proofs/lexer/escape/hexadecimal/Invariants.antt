use Rattle.std.proofs.Common.{◌≡◌, ◌-◌, ◌^◌, ◌<◌, drop}
use Rattle.syntax.specs.lexer.Escapes.{hexadecimal}
use Rattle.syntax.proofs.lexer.escape.hexadecimal.Given as goal

abbrev pub invariant-loop-index : goal.invariant-loop-index
invariant-loop-index l = record { room : l.value < 16 ^ l.index; read : hexadecimal l.count 0 l.bytes ≡ hexadecimal (l.count - l.index) l.value (drop l.index l.bytes) }
