use Rattle.std.proofs.Common.{arith}
use Rattle.std.proofs.lemmas.Grind.{common_steps}
use Rattle.ports.proofs.Sending.{writes_exit, writes_next, writes_until}
use Rattle.ports.specs.Outputs.{puts}
use Rattle.ninja.specs.Places.{byte_text}
use Rattle.ninja.proofs.escapes.write_each.Goals as goal

pub returns-in_err-write_byte : goal.returns-in_err-write_byte
returns-in_err-write_byte g c =
    writes_exit _ c.from_residual.ensures.0
    (writes_until (λ b. puts (byte_text c.args.place b)) c.args.bytes.now c.loop-byte.byte-index _ c.loop-byte.invariant
    c.loop-byte-test.true (grind (arith, common_steps)) c.in_err-write_byte.ensures)

pub loop-byte-preserved : goal.loop-byte-preserved
loop-byte-preserved g c =
    writes_next (λ b. puts (byte_text c.args.place b)) c.args.bytes.now c.loop-byte.byte-index _ c.loop-byte.invariant
    c.loop-byte-test.true (grind (arith, common_steps)) c.in_ok-write_byte.ensures
