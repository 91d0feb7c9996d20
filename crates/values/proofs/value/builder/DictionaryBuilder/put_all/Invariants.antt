use Rattle.std.proofs.Common.{◌≡◌, ◌+◌, ◌≤◌}
use Rattle.values.specs.Data.{merged_entries}
use Rattle.values.specs.Weight.{entries_weight}
use Rattle.values.proofs.BuilderLemmas.{entries_from_place}
use Rattle.values.proofs.value.builder.DictionaryBuilder.put_all.Given as goal

-- what is there so far and what is left make the whole
abbrev pub invariant-loop-i : goal.invariant-loop-i
invariant-loop-i l =
    record {
      whole : merged_entries l.self (entries_from_place l.i l.dictionary) ≡ merged_entries l.initial.self l.dictionary;
      light : entries_weight l.self + entries_weight (entries_from_place l.i l.dictionary) ≤ entries_weight l.initial.self + entries_weight l.dictionary;
    }
