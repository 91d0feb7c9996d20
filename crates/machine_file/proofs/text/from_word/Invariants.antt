use Rattle.std.proofs.Common.{◌≡◌, ◌-◌, length, drop}
use Rattle.std.specs.Str.{IsCharBoundary}
use Rattle.machine_file.specs.Texts.{from_word}
use Rattle.machine_file.proofs.text.from_word.Given as goal

abbrev pub invariant-loop-start : goal.invariant-loop-start
invariant-loop-start l = record {
  same : from_word l.blanks (drop l.start l.text)
      ≡ from_word l.blanks l.text;
  cut : IsCharBoundary l.text l.start;
}

abbrev pub decreases-loop-start : goal.decreases-loop-start
decreases-loop-start l = length l.text - l.start
