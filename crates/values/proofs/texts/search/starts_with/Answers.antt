use Rattle.std.proofs.lemmas.Str.Pattern.{starts_text}
use Rattle.values.proofs.texts.search.starts_with.Goals as goal

pub returns : goal.returns
returns c = starts_text _ c.args.part.now c.args.text.now c.starts_with.ensures.cases
