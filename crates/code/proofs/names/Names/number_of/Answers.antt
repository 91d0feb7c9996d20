use Rattle.std.proofs.Common.{sym, ap, ◌∙◌}
use Rattle.code.specs.Names.{number_in}
use Rattle.code.proofs.NameLists.{position_texts}
use Rattle.code.proofs.names.Names.number_of.Goals as goal

pub returns : goal.returns
returns c = c.index_of_text.ensures.index ∙ sym (position_texts c.args.name.now c.self.inside.names.keys)
    ∙ ap (number_in c.args.name.now) c.self.view_is
