use Rattle.std.proofs.Common.{◌≡◌}
use Rattle.template.specs.Config.{entries_with_others}
use Rattle.template.specs.ConfigData.{entries_of}
use Rattle.template.specs.Undo.{AreSet, changes_of}
use Rattle.template.proofs.config.merge.Given as goal

abbrev pub invariant-loop-name : goal.invariant-loop-name
invariant-loop-name l = record {
  merged : entries_with_others (entries_of l.entries.entries) (entries_of l.name-iterator) ≡ entries_with_others (entries_of l.fn.entries.entries) (entries_of l.others.entries);
  changes : AreSet (changes_of l.changes.items) (entries_of l.fn.entries.entries) (entries_of l.entries.entries);
}
