use Rattle.std.proofs.Common.{◌≡◌, length}
use Rattle.std.specs.List.{AllPass}
use Rattle.std.specs.Char.{is_ascii_digit}
use Rattle.versions.specs.Version.{integer_of_digits}
use Rattle.versions.proofs.without_zeros.Given as goal

abbrev pub invariant-loop-first : goal.invariant-loop-first
invariant-loop-first l = record { same : integer_of_digits l.left ≡ integer_of_digits l.digits; digits : AllPass is_ascii_digit l.left }

abbrev pub decreases-loop-first : goal.decreases-loop-first
decreases-loop-first l = length l.left
