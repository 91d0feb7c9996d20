use Rattle.template.specs.ConfigData.{entries_of}
use Rattle.template.specs.Header.{header_steps, entry_lines}
use Rattle.ports.proofs.Going.{Going}
use Rattle.template.proofs.heading.header.Given as goal

abbrev pub invariant-loop-name : goal.invariant-loop-name
invariant-loop-name g l = Going (g.O.Outputs.seen l.fn.out) (g.O.Outputs.seen l.out) (header_steps l.config.entries) (entry_lines (entries_of l.name-iterator))
