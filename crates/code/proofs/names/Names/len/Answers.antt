use Rattle.std.proofs.Common.{subst}
use Rattle.std.specs.Prelude.{bytes_eq}
use Rattle.std.specs.List.{IsDistinct}
use Rattle.code.proofs.NameLists.{distinct_texts}
use Rattle.code.proofs.names.Names.len.Goals as goal

pub returns-clause-distinct : goal.returns-clause-distinct
returns-clause-distinct c = subst (IsDistinct bytes_eq) c.self.view_is (distinct_texts c.self.inside.names.keys c.len.ensures.unique)
