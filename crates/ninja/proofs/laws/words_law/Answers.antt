use Rattle.ninja.proofs.ShellWords.{words_again}
use Rattle.ninja.proofs.laws.words_law.Goals as goal

pub returns : goal.returns
returns c = words_again
