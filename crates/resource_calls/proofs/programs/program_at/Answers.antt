use Rattle.std.proofs.Common.{◌≡◌, true, false, string_bytes, ap, refl, sym, arith}
use Rattle.std.proofs.lemmas.Grind.{common_steps}
use Rattle.world.proofs.Answering.{carries_as, carries_give, carries_none, carries_stop, carries_then}
use Rattle.resource_calls.specs.Programs.{file_program, program_at}
use Rattle.resource_calls.proofs.Exactly.{carries_exactly}
use Rattle.resource_calls.proofs.programs.program_at.Goals as goal

pub returns-then-not-is_there : goal.returns-then-not-is_there
unfolding program_at
returns-then-not-is_there g c =
    let is : c.args.is_there ≡ false = grind (arith, common_steps, c.if-not-is_there.true) in
    carries_as (ap (program_at (string_bytes c.args.path)) (sym is)) (carries_give refl)

pub returns-in_err-answer : goal.returns-in_err-answer
returns-in_err-answer g c = carries_none c.from_residual.ensures.1

pub returns-in_err-text : goal.returns-in_err-text
unfolding program_at file_program
returns-in_err-text g c =
    let is : c.args.is_there ≡ true = grind (arith, common_steps, c.if-not-is_there.false) in
    carries_as (ap (program_at (string_bytes c.args.path)) (sym is))
    (carries_stop (carries_exactly c.in_ok-answer.ensures c.in_err-text.ensures) c.from_residual-in_err-text.ensures.1)

pub returns : goal.returns
unfolding program_at file_program
returns g c =
    let is : c.args.is_there ≡ true = grind (arith, common_steps, c.if-not-is_there.false) in
    carries_as (ap (program_at (string_bytes c.args.path)) (sym is))
    (carries_then {x = c.in_ok-text.text} (carries_exactly c.in_ok-answer.ensures c.in_ok-text.ensures) (carries_give refl))
