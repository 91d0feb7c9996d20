use Rattle.std.proofs.Common.{◌≡◌, ◌<◌, ◌^◌, drop}
use Rattle.syntax.specs.lexer.Numerals.{number_in_base}
use Rattle.syntax.proofs.lexer.numeral.read_digits.Given as goal

abbrev pub invariant-loop-byte : goal.invariant-loop-byte
invariant-loop-byte l = record { small : l.value < 2 ^ 128; same : number_in_base l.base l.value (drop l.byte-index l.digits) ≡ number_in_base l.base 0 l.digits }
