use Rattle.std.proofs.Common.{[], ◌∷◌, map, codes}
use Rattle.values.specs.View.{data_of}
use Rattle.world.proofs.Answering.{carries_stop, carries_then}
use Rattle.language_calls.specs.Messages.{line_of}
use Rattle.language_calls.proofs.Saying.{carries_last, carries_whole}
use Rattle.language_calls.proofs.messages.say_line.Goals as goal

pub returns-in_err-say : goal.returns-in_err-say
returns-in_err-say g c =
    carries_whole (c.args.start.now ∷ line_of (map data_of c.args.values.now) ∷ codes "\n" ∷ []) (carries_stop c.in_err-say.ensures c.from_residual.ensures.1)

pub returns-in_err-say_values : goal.returns-in_err-say_values
returns-in_err-say_values g c =
    carries_whole (c.args.start.now ∷ line_of (map data_of c.args.values.now) ∷ codes "\n" ∷ [])
    (carries_then c.in_ok-say.ensures (carries_stop c.in_err-say_values.ensures c.from_residual-in_err-say_values.ensures.1))

pub returns : goal.returns
returns g c =
    carries_whole (c.args.start.now ∷ line_of (map data_of c.args.values.now) ∷ codes "\n" ∷ [])
    (carries_then c.in_ok-say.ensures (carries_then c.in_ok-say_values.ensures (carries_last c.say-2.result c.say-2.ensures)))
