use Rattle.std.proofs.Common.{◌≡◌, length}
use Rattle.syntax.specs.lexer.Lexeme.{lexemes}
use Rattle.machine_file.specs.Values.{items_of}
use Rattle.machine_file.proofs.Items.{found}
use Rattle.machine_file.proofs.value.items_of.Given as goal

abbrev pub invariant-loop-rest : goal.invariant-loop-rest
invariant-loop-rest l = items_of (lexemes l.tokens) ≡ found l.items.items l.rest

abbrev pub decreases-loop-rest : goal.decreases-loop-rest
decreases-loop-rest l = length l.rest
