use Rattle.code.proofs.Parts.{grows_trans}
use Rattle.code.proofs.StatementTrees.{name_kept}
use Rattle.code.proofs.draft.Draft.loop_names.Goals as goal

pub returns-in_err-second-clause-grows : goal.returns-in_err-second-clause-grows
returns-in_err-second-clause-grows c =
    grows_trans c.args.self.now c.name.new.self c.second_name.new.self c.name.ensures.grows c.second_name.ensures.grows

pub returns-clause-grows : goal.returns-clause-grows
returns-clause-grows c =
    grows_trans c.args.self.now c.name.new.self c.second_name.new.self c.name.ensures.grows c.second_name.ensures.grows

pub returns-clause-within : goal.returns-clause-within
returns-clause-within c = (name_kept c.name.new.self.names c.second_name.new.self.names c.in_ok-first.first c.args.first.now
    c.second_name.ensures.grows.names c.in_ok-first.ensures.within c.in_ok-first.ensures.is).0

pub returns-clause-is : goal.returns-clause-is
returns-clause-is c = (name_kept c.name.new.self.names c.second_name.new.self.names c.in_ok-first.first c.args.first.now
    c.second_name.ensures.grows.names c.in_ok-first.ensures.within c.in_ok-first.ensures.is).1
