use Rattle.std.proofs.Common.{◌≡◌, ◌≤◌, take}
use Rattle.std.specs.Prelude.{count_by}
use Rattle.target_calls.proofs.InputAlone.{says}
use Rattle.target_calls.proofs.custom.count_sources.Given as goal

abbrev pub invariant-loop-one : goal.invariant-loop-one
invariant-loop-one l = record {
  counted : l.count ≡ count_by says (take l.one-index l.named);
  within : l.count ≤ l.one-index;
}
