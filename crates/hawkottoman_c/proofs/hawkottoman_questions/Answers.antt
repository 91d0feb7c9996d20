use Rattle.hawkottoman_c.proofs.hawkottoman_questions.Goals as goal

pub returns-clause-run : goal.returns-clause-run
returns-clause-run c = λ files options said means. (c.questions.result, c.status.ensures, c.questions.ensures.run files options said means)

pub returns-clause-kept : goal.returns-clause-kept
returns-clause-kept c = (c.questions.result, c.status.ensures, c.questions.ensures.kept)
