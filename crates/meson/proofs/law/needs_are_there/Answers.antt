use Rattle.meson.proofs.Needs.{there}
use Rattle.meson.proofs.law.needs_are_there.Goals as goal

pub returns : goal.returns
returns c = there c.lists_what_it_looks_at.ensures c.closes_what_it_makes.ensures
