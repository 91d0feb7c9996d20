use Rattle.values.proofs.ItemsLemmas.{room_for_all}
use Rattle.values.proofs.value.List.has_room_for.Goals as goal

pub returns : goal.returns
returns c = let room = room_for_all c.args.self.now c.args.other.now in cc
