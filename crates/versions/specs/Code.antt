-- Defines what the code's own types mean.
use Rattle.std.specs.List.{AllPass}
use Rattle.std.specs.Char.{is_ascii_digit}
use Rattle.versions.specs.Version.{Run as VersionRun, number, word}
use Rattle.versions.specs.declared.Run.{Run}
use Rattle.versions.specs.declared.Run.TheVariants.{Number, Word}

-- Returns the run of the definition for a run of the code.
abbrev pub run_in : Run → VersionRun
run_in (Number digits) = number digits.now
run_in (Word letters) = word letters.now

-- Holds if all bytes of a number are digits.
abbrev pub IsWellFormed : Run → Type 0
IsWellFormed (Number digits) = AllPass is_ascii_digit digits.now
IsWellFormed (Word letters) = Unit {0}
