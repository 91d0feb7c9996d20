use Rattle.std.proofs.Common.{length, ◌-◌, ◌≡◌, ◌+◌, ◌≤◌, drop}
use Rattle.syntax.specs.lexer.Bytes.{continues_word}
use Rattle.syntax.specs.lexer.Lexing.{run_length}
use Rattle.syntax.proofs.lexer.word.word_length.Given as goal

abbrev pub invariant-loop-length : goal.invariant-loop-length
invariant-loop-length l = record { within : l.length ≤ length l.bytes; counted : run_length continues_word l.bytes ≡ l.length + run_length continues_word (drop l.length l.bytes) }

abbrev pub decreases-loop-length : goal.decreases-loop-length
decreases-loop-length l = length l.bytes - l.length
