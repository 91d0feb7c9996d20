use Rattle.std.proofs.Common.{◌≡◌, ◌≤◌, ◌+◌, ◌*◌, ◌-◌, ◌++◌, IsTrue, length, take, drop}
use Rattle.ports.specs.Tree.{Stays, bytes_at}
use Rattle.template.proofs.Passing.{IsPassing}
use Rattle.template.proofs.Reading.{Reading}
use Rattle.template.proofs.template.pass.Given as goal

abbrev pub invariant-lines : goal.invariant-lines
invariant-lines g l = record {
  ends : l.start ≤ l.end;
  in_line : l.end ≤ length l.line;
  line_len : length l.line ≡ 65536;
  in_file : l.at ≤ l.size;
  counted : l.lines + (l.end - l.start) ≤ l.at;
  size : IsTrue (g.T.Tree.seen l.fn.tree).steady → l.size ≡ length (bytes_at (g.T.Tree.seen l.fn.tree).files l.path);
  passing : IsTrue (g.T.Tree.seen l.fn.tree).steady →
      IsPassing (g.O.Outputs.seen l.fn.out) (g.O.Outputs.seen l.out) l.config.entries l.path (bytes_at (g.T.Tree.seen l.fn.tree).files l.path) (l.lines + 1)
      (take (l.end - l.start) (drop l.start l.line) ++ drop l.at (bytes_at (g.T.Tree.seen l.fn.tree).files l.path));
  reading : Reading g.T.Tree.tells_size g.T.Tree.gives l.config.entries l.path l.fn.tree l.tree (g.O.Outputs.seen l.fn.out) (g.O.Outputs.seen l.out) l.size l.at (l.lines + 1)
      (take (l.end - l.start) (drop l.start l.line));
  stays : Stays (g.T.Tree.seen l.fn.tree) (g.T.Tree.seen l.tree);
  tree_failures : (g.T.Tree.seen l.tree).failures ≡ (g.T.Tree.seen l.fn.tree).failures;
  name : (g.O.Outputs.seen l.out).open_name ≡ (g.O.Outputs.seen l.fn.out).open_name;
  out_failures : (g.O.Outputs.seen l.out).failures ≡ (g.O.Outputs.seen l.fn.out).failures;
}

abbrev pub decreases-lines : goal.decreases-lines
decreases-lines g l = 2 * (l.size - l.at) + (l.end - l.start)
