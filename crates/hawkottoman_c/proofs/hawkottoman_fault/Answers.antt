use Rattle.hawkottoman_c.proofs.hawkottoman_fault.Goals as goal

pub returns-clause-run : goal.returns-clause-run
returns-clause-run c = λ files options said means. (c.fault.result, c.status.ensures, c.fault.ensures.run files options said means)

pub returns-clause-kept : goal.returns-clause-kept
returns-clause-kept c = (c.fault.result, c.status.ensures, c.fault.ensures.kept)
