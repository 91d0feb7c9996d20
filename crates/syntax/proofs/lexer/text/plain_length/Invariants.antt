use Rattle.std.proofs.Common.{length, ◌-◌, ◌≡◌, ◌+◌, ◌≤◌, drop}
use Rattle.syntax.specs.lexer.Lexing.{run_length}
use Rattle.syntax.specs.lexer.Texts.{is_no_backslash}
use Rattle.syntax.proofs.lexer.text.plain_length.Given as goal

abbrev pub invariant-loop-length : goal.invariant-loop-length
invariant-loop-length l = record { within : l.length ≤ length l.bytes; counted : run_length is_no_backslash l.bytes ≡ l.length + run_length is_no_backslash (drop l.length l.bytes) }

abbrev pub decreases-loop-length : goal.decreases-loop-length
decreases-loop-length l = length l.bytes - l.length
