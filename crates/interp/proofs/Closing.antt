-- What an evaluation makes it closes.
use Rattle.std.proofs.Common.{false, refl}
use Rattle.world.specs.Start.{first_world}
use Rattle.world.proofs.Closing.{plan-closes}
use Rattle.interp.specs.Evaluation.{evaluated_files, evaluation, sections_of}
use Rattle.interp.specs.Laws.{ClosesWhatItMakes}

pub closes_what_it_makes : ClosesWhatItMakes
unfolding evaluated_files
closes_what_it_makes files settings said = plan-closes files (evaluation false said) (first_world settings (sections_of said)) refl
