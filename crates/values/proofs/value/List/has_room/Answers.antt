use Rattle.values.specs.View.{data_of}
use Rattle.values.proofs.ItemsLemmas.{room_for_one}
use Rattle.values.proofs.value.List.has_room.Goals as goal

pub returns : goal.returns
returns c = let room = room_for_one c.args.self.now (data_of c.args.value.now) in cc
