use Rattle.std.proofs.Common.{◌≡◌, ◌≤◌, drop}
use Rattle.template.proofs.Pieces.{slashes_at}
use Rattle.template.proofs.replace.count_slashes.Given as goal

abbrev pub invariant-loop-b : goal.invariant-loop-b
invariant-loop-b l = record {
  few : l.slashes ≤ l.b-index;
  same : slashes_at l.slashes (drop l.b-index l.bytes) ≡ slashes_at 0 l.bytes;
}
