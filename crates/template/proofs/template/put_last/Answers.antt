use Rattle.std.proofs.Common.{◌+◌, sym, eqb-true, eq-eqb, ◌∙◌}
use Rattle.std.proofs.lemmas.Bool.{false≢true}
use Rattle.template.proofs.Passing.{last_none, last_one, fault_none, fault_one}
use Rattle.template.proofs.template.put_last.Goals as goal

pub returns-then-is_empty-clause-writes : goal.returns-then-is_empty-clause-writes
returns-then-is_empty-clause-writes g c = last_none _ c.args.config.now.entries c.args.path.now (c.args.lines + 1) c.args.bytes.now (eqb-true _ 0 (sym c.if-is_empty.ensures))

pub returns-then-is_empty-clause-fault : goal.returns-then-is_empty-clause-fault
returns-then-is_empty-clause-fault g c = fault_none (c.args.lines + 1) c.args.bytes.now (eqb-true _ 0 (sym c.if-is_empty.ensures))

pub returns-else-is_empty-clause-writes : goal.returns-else-is_empty-clause-writes
returns-else-is_empty-clause-writes g c = last_one c.args.config.now.entries c.args.path.now (c.args.lines + 1) c.args.bytes.now (λ none. false≢true (c.if-is_empty.ensures ∙ eq-eqb _ 0 none)) c.requires.lacks c.replace_line.ensures.writes

pub returns-else-is_empty-clause-fault : goal.returns-else-is_empty-clause-fault
returns-else-is_empty-clause-fault g c = rw (← fault_one (c.args.lines + 1) c.args.bytes.now (λ none. false≢true (c.if-is_empty.ensures ∙ eq-eqb _ 0 none)) c.requires.lacks) c.replace_line.ensures.fault
