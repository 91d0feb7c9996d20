use Rattle.interp.proofs.Closing.{closes_what_it_makes}
use Rattle.interp.proofs.law.closes_what_it_makes.Goals as goal

pub returns : goal.returns
returns c = closes_what_it_makes
