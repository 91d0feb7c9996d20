use Rattle.std.proofs.Common.{◌≡◌, ℕ, ◌-◌, ◌≤◌, List, length, take}
use Rattle.ports.specs.Reading.{Given}
use Rattle.ports.specs.Tree.{bytes_at, Stays}
use Rattle.world.specs.Gives.{Holds}
use Rattle.world.proofs.definition_files.contents.fill.Given as goal

abbrev pub invariant-loop-at : goal.invariant-loop-at
invariant-loop-at g l = record {
  within : l.at ≤ length l.buffer;
  stays : Stays (g.T.Tree.seen l.fn.tree) (g.T.Tree.seen l.tree);
  failures : (g.T.Tree.seen l.tree).failures ≡ (g.T.Tree.seen l.fn.tree).failures;
  bytes : (files : List (List ℕ × List ℕ)) → Holds (g.T.Tree.seen l.fn.tree) files → take l.at l.buffer ≡ take l.at (bytes_at files l.path);
  given : Given g.T.Tree.gives l.path (length l.initial.buffer) l.fn.tree (take l.at l.buffer) l.tree;
}

abbrev pub decreases-loop-at : goal.decreases-loop-at
decreases-loop-at g l = length l.initial.buffer - l.at
