use Rattle.operations.proofs.PlaceCounts.{places_do}
use Rattle.operations.proofs.methods.laws.places_count.Goals as goal

pub returns : goal.returns
returns c = places_do
