use Rattle.ninja.proofs.EdgeBlocks.{edge_text_read}
use Rattle.ninja.proofs.WholeFile.{runs_words}
use Rattle.ninja.proofs.laws.edge_law.Goals as goal

pub returns : goal.returns
returns c = record { read = edge_text_read; runs = runs_words }
