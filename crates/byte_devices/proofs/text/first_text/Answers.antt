use Rattle.std.proofs.Common.{sym}
use Rattle.byte_devices.proofs.Zeros.{no_zero, text_is, no_text}
use Rattle.byte_devices.proofs.text.first_text.Goals as goal

pub returns-in_default-clause-none : goal.returns-in_default-clause-none
returns-in_default-clause-none c = no_zero c.args.bytes.now (sym c.in_default.ensures)

pub returns-in-Ok-clause-some : goal.returns-in-Ok-clause-some
returns-in-Ok-clause-some c = text_is c.args.bytes.now _ c.in-Some.end (sym c.in-Some.ensures) c.in-Ok.ensures.cases.0 c.in-Ok.ensures.cases.1

pub returns-in-Err-clause-none : goal.returns-in-Err-clause-none
returns-in-Err-clause-none c = no_text c.args.bytes.now c.in-Some.end (sym c.in-Some.ensures) c.in-Err.ensures.cases.0
