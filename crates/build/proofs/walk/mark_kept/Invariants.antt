use Rattle.std.proofs.Common.{take}
use Rattle.build.specs.Marks.{AreMarks}
use Rattle.build.proofs.walk.mark_kept.Given as goal

abbrev pub invariant-loop-place : goal.invariant-loop-place
invariant-loop-place l = AreMarks l.marks.items (take l.place l.kept)
