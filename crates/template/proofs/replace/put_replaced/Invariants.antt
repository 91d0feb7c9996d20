use Rattle.std.proofs.Common.{◌≤◌, ◌-◌, drop, length}
use Rattle.template.specs.Line.{replaced_line}
use Rattle.ports.proofs.Going.{Going}
use Rattle.template.proofs.replace.put_replaced.Given as goal

abbrev pub invariant-loop-sign : goal.invariant-loop-sign
invariant-loop-sign g l = record {
  in_range : l.from ≤ length l.line;
  going : Going (g.O.Outputs.seen l.fn.out) (g.O.Outputs.seen l.out) (replaced_line l.config.entries l.path l.number l.line) (replaced_line l.config.entries l.path l.number (drop l.from l.line));
}

abbrev pub decreases-loop-sign : goal.decreases-loop-sign
decreases-loop-sign g l = length l.line - l.from
