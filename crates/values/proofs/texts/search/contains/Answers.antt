use Rattle.std.proofs.lemmas.Bool.Decides.{same_from_decides}
use Rattle.std.proofs.lemmas.Str.Pattern.{contains_text}
use Rattle.values.proofs.SearchLemmas.{Decides-contains}
use Rattle.values.specs.texts.Search.{contains}
use Rattle.values.proofs.texts.search.contains.Goals as goal

pub returns-clause-value : goal.returns-clause-value
returns-clause-value c =
    same_from_decides _ (contains c.args.text.now c.args.part.now)
    (contains_text _ c.args.part.now c.args.text.now c.contains.ensures.cases) (Decides-contains c.args.text.now c.args.part.now)

pub returns-clause-stands : goal.returns-clause-stands
returns-clause-stands c = contains_text _ c.args.part.now c.args.text.now c.contains.ensures.cases
