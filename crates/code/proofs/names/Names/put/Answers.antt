use Rattle.std.proofs.Common.{sym, ap, ◌∙◌}
use Rattle.code.specs.Names.{texts, number_in, with_name}
use Rattle.code.proofs.NameLists.{position_texts, put_known, put_new, number_new}
use Rattle.code.proofs.names.Names.put.Goals as goal

pub returns-in-Some-clause-names : goal.returns-in-Some-clause-names
returns-in-Some-clause-names c =
    sym c.self.view_is ∙ put_known c.args.name.now c.self.inside.names.keys c.in-Some.ensures.found
    ∙ ap (with_name c.args.name.now) c.self.view_is

pub returns-in-Some-clause-number : goal.returns-in-Some-clause-number
returns-in-Some-clause-number c =
    ap (number_in c.args.name.now) (sym c.self.view_is) ∙ position_texts c.args.name.now c.self.inside.names.keys
    ∙ sym c.in-Some.ensures.index

pub returns-in_ok-number-in-None-clause-names : goal.returns-in_ok-number-in-None-clause-names
returns-in_ok-number-in-None-clause-names c =
    put_new c.in_ok-name-in-None.name c.self.inside.names.keys c.insert_full.new.self.keys c.in_ok-number-in-None.ensures.keys
    ∙ ap (λ q. with_name q (texts c.self.inside.names.keys)) c.in_ok-name-in-None.ensures.ok
    ∙ ap (with_name c.args.name.now) c.self.view_is

pub returns-in_ok-number-in-None-clause-number : goal.returns-in_ok-number-in-None-clause-number
returns-in_ok-number-in-None-clause-number c =
    ap (λ q. number_in q (texts c.insert_full.new.self.keys)) (sym c.in_ok-name-in-None.ensures.ok)
    ∙ number_new c.in_ok-name-in-None.name c.self.inside.names.keys c.insert_full.new.self.keys c.in_ok-number-in-None.number
    c.in_ok-number-in-None.ensures.keys c.in_ok-number-in-None.ensures.index c.in_ok-number-in-None.ensures.within
