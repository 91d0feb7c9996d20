use Rattle.std.proofs.lemmas.Str.Pattern.{ends_text}
use Rattle.values.proofs.texts.search.ends_with.Goals as goal

pub returns : goal.returns
returns c = ends_text _ c.args.part.now c.args.text.now c.ends_with.ensures.cases
