use Rattle.syntax.proofs.EveryText.{texts_are_parsed}
use Rattle.syntax.proofs.law.texts_are_parsed.Goals as goal

pub returns : goal.returns
returns c = texts_are_parsed
