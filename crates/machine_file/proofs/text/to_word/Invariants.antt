use Rattle.std.proofs.Common.{◌≡◌, length, take, ◌≤◌}
use Rattle.std.specs.Str.{IsCharBoundary}
use Rattle.machine_file.specs.Texts.{to_word}
use Rattle.machine_file.proofs.text.to_word.Given as goal

abbrev pub invariant-loop-end : goal.invariant-loop-end
invariant-loop-end l = record {
  within : l.end ≤ length l.text;
  same : to_word l.blanks (take l.end l.text)
      ≡ to_word l.blanks l.text;
  cut : IsCharBoundary l.text l.end;
}

abbrev pub decreases-loop-end : goal.decreases-loop-end
decreases-loop-end l = l.end
