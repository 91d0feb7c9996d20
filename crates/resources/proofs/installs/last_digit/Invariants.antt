use Rattle.std.proofs.Common.{◌≡◌, ◌<◌, drop}
use Rattle.std.specs.Prelude.{IfSome}
use Rattle.resources.specs.Installs.{or_else, last_digit}
use Rattle.resources.proofs.installs.last_digit.Given as goal

-- what is left decides, or else what was found
abbrev pub invariant-loop-byte : goal.invariant-loop-byte
invariant-loop-byte l =
    (or_else (last_digit (drop l.byte-index l.name)) l.found ≡ last_digit l.name) × IfSome l.found (λ digit. digit < 128)
