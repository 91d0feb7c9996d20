use Rattle.std.proofs.Common.{length}
use Rattle.template.specs.Config.{Entries}
use Rattle.template.specs.ConfigData.{entries_of}
use Rattle.template.specs.Undo.{AreSet, changes_of}
use Rattle.template.proofs.config.undo.Given as goal

abbrev pub invariant-loop-name : goal.invariant-loop-name
invariant-loop-name l = (old : Entries) → AreSet (changes_of l.fn.changes.items) old (entries_of l.fn.entries.entries) → AreSet (changes_of l.changes.items) old (entries_of l.entries.entries)

abbrev pub decreases-loop-name : goal.decreases-loop-name
decreases-loop-name l = length l.changes.items
