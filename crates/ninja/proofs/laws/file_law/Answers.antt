use Rattle.std.proofs.Common.{refl}
use Rattle.ninja.specs.Meaning.{file_seen}
use Rattle.ninja.proofs.WholeFile.{file_read, each_runs}
use Rattle.ninja.proofs.laws.file_law.Goals as goal

pub returns : goal.returns
returns c = record { read = file_read; runs = λ es names h. each_runs (file_seen es names) es refl h }
