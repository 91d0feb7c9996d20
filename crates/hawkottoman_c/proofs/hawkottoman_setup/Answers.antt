use Rattle.hawkottoman_c.proofs.hawkottoman_setup.Goals as goal

pub returns-clause-run : goal.returns-clause-run
returns-clause-run c = λ files options said means. (c.setup.result, c.status.ensures, c.setup.ensures.run files options said means)

pub returns-clause-kept : goal.returns-clause-kept
returns-clause-kept c = (c.setup.result, c.status.ensures, c.setup.ensures.kept)
