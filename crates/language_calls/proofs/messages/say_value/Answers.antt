use Rattle.std.proofs.Common.{ap, refl, sym, ◌∙◌}
use Rattle.values.specs.View.{data_of}
use Rattle.values.specs.printing.Pieces.{pieces, whole}
use Rattle.world.specs.Deed.{say}
use Rattle.world.proofs.Answering.{carries_as, carries_give, carries_none}
use Rattle.world.proofs.Leading.{leads_start, leads_on, leads_end, leads_stop, leads_as, room_on}
use Rattle.language_calls.specs.Saying.{say_each}
use Rattle.language_calls.proofs.Saying.{carries_whole, next_piece, no_piece}
use Rattle.language_calls.proofs.messages.say_value.Goals as goal

pub returns-in_err-printer : goal.returns-in_err-printer
returns-in_err-printer g c = carries_none c.from_residual.ensures.1

pub loop-printer-init : goal.loop-printer-init
loop-printer-init g c = leads_as (ap say_each (sym c.in_ok-printer.ensures.pieces)) leads_start

pub returns-in_err-piece : goal.returns-in_err-piece
returns-in_err-piece g c =
    carries_as (ap say (ap whole (sym c.in_ok-printer.ensures.pieces) ∙ c.in_ok-printer.ensures.whole))
    (carries_whole (pieces (data_of c.args.value.now)) (leads_end c.loop-printer.invariant (carries_none c.from_residual-in_err-piece.ensures.1)))

pub say_piece-requires : goal.say_piece-requires
say_piece-requires g c = room_on c.loop-printer.invariant c.requires

pub returns-in_err-say_piece : goal.returns-in_err-say_piece
returns-in_err-say_piece g c =
    carries_as (ap say (ap whole (sym c.in_ok-printer.ensures.pieces) ∙ c.in_ok-printer.ensures.whole))
    (carries_whole (pieces (data_of c.args.value.now))
    (leads_stop (leads_as (ap say_each (next_piece c.in-Some.is c.in_ok-piece.ensures)) c.loop-printer.invariant) c.in_err-say_piece.ensures c.from_residual-in_err-say_piece.ensures.1))

pub loop-printer-preserved : goal.loop-printer-preserved
loop-printer-preserved g c = leads_on (leads_as (ap say_each (next_piece c.in-Some.is c.in_ok-piece.ensures)) c.loop-printer.invariant) c.in_ok-say_piece.ensures

pub returns : goal.returns
returns g c =
    carries_as (ap say (ap whole (sym c.in_ok-printer.ensures.pieces) ∙ c.in_ok-printer.ensures.whole))
    (carries_whole (pieces (data_of c.args.value.now)) (leads_end (leads_as (ap say_each (no_piece _ c.in_default.is c.in_ok-piece.ensures)) c.loop-printer.invariant) (carries_give refl)))
