use Rattle.std.proofs.Common.{◌≡◌, ◌-◌, ◌<◌, ◌≤◌, drop}
use Rattle.syntax.specs.lexer.Escapes.{octal}
use Rattle.syntax.proofs.lexer.escape.octal.Given as goal

abbrev pub invariant-loop-size : goal.invariant-loop-size
invariant-loop-size l =
    record {
      none : l.size ≤ 0 → l.value < 1;
      one : l.size ≤ 1 → l.value < 8;
      two : l.size ≤ 2 → l.value < 64;
      room : l.value < 512;
      read : octal 3 0 0 l.bytes ≡ octal (3 - l.size) l.value l.size (drop l.size l.bytes);
    }

abbrev pub decreases-loop-size : goal.decreases-loop-size
decreases-loop-size l = 3 - l.size
