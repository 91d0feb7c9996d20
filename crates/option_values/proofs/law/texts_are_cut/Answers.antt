use Rattle.option_values.proofs.EveryText.{texts_are_cut}
use Rattle.option_values.proofs.law.texts_are_cut.Goals as goal

pub returns : goal.returns
returns c = texts_are_cut
