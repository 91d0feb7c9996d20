use Rattle.std.proofs.Common.{ap}
use Rattle.world.specs.Deed.{say}
use Rattle.world.proofs.Answering.{carries_as}
use Rattle.language_calls.proofs.messages.say_piece.Goals as goal

pub returns : goal.returns
returns g c = carries_as (ap say c.text_of.ensures) c.say.ensures
