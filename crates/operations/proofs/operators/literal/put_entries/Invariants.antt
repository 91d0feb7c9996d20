use Rattle.std.proofs.Common.{◌≡◌, ◌*◌, ◌≤◌, ◌^◌, length, drop}
use Rattle.values.specs.Data.{no_entries}
use Rattle.values.specs.Weight.{entries_weight}
use Rattle.operations.specs.operators.Literal.{with_entries, pairs_of}
use Rattle.operations.proofs.operators.literal.put_entries.Given as goal

-- what is there so far and what is left make the whole
abbrev pub invariant-loop-key : goal.invariant-loop-key
invariant-loop-key l =
    record {
      whole : with_entries l.builder (pairs_of (drop (length l.yielded) l.fn.entries.items)) ≡ with_entries no_entries (pairs_of l.fn.entries.items);
      light : entries_weight l.builder ≤ length l.yielded * 2 ^ 26;
    }
