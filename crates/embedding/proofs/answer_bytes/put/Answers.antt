use Rattle.std.proofs.Common.{arith}
use Rattle.embedding.proofs.Filling.{filled_more}
use Rattle.embedding.proofs.answer_bytes.put.Goals as goal

pub returns : goal.returns
returns c = λ before b f. filled_more c.args.room.now before c.args.bytes.now c.copy_from_slice.new.self c.args.at c.min-count.result _ b c.if-room-at.false
    c.min-count.ensures c.copy_from_slice.ensures.after (omega arith) f
