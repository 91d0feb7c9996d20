use Rattle.options.specs.option_file.View.{options_in}
use Rattle.options.proofs.Statements.{Follows}
use Rattle.options.proofs.option_file.file.file_declares.Given as goal

-- what all statements declare is what the others declare after those so far
abbrev pub invariant-loop-statement : goal.invariant-loop-statement
invariant-loop-statement l = Follows l.statement-items l.statement-index (options_in l.declared)
