use Rattle.std.proofs.Common.{append-nil, refl}
use Rattle.ninja.specs.Pieces.{Outside, escapes}
use Rattle.ninja.proofs.Machines.{passes_all}
use Rattle.ninja.proofs.Pieces.{value_pieces, value_passes, value_again}
use Rattle.ninja.proofs.laws.value_law.Goals as goal

pub returns : goal.returns
returns c scope v = rw (passes_all escapes Outside _ (value_pieces v) Outside (value_passes v), append-nil (value_pieces v), value_again scope v) refl
