use Rattle.interp.proofs.Noting.{notes_what_it_looks_at}
use Rattle.interp.proofs.law.notes_what_it_looks_at.Goals as goal

pub returns : goal.returns
returns c = notes_what_it_looks_at
