use Rattle.introspection.specs.Document.{definition_file}
use Rattle.introspection.proofs.entries.definition_file.Goals as goal

pub returns : goal.returns
unfolding definition_file
returns c = c.path_in.ensures
