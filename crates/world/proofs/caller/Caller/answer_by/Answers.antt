use Rattle.std.proofs.Common.{rules}
use Rattle.world.proofs.caller.Caller.answer_by.Goals as goal

pub returns-in-Ok : goal.returns-in-Ok
returns-in-Ok g c = search rules

pub returns-in-Err-Arguments : goal.returns-in-Err-Arguments
returns-in-Err-Arguments g c = search rules

pub returns-in-Err : goal.returns-in-Err
returns-in-Err g c = search rules
