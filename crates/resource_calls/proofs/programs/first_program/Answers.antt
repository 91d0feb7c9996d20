use Rattle.std.proofs.Common.{◌+◌, ap, refl, sym}
use Rattle.world.proofs.Answering.{carries_as, carries_give, carries_then}
use Rattle.world.proofs.Leading.{leads_start, leads_on, leads_end, leads_stop, leads_as, room_on}
use Rattle.resource_calls.specs.Programs.{first_program, or_else}
use Rattle.resource_calls.proofs.Looking.{all_from, first_program-drop, first_program-end}
use Rattle.resource_calls.proofs.programs.first_program.Goals as goal

pub loop-name-init : goal.loop-name-init
loop-name-init g c = leads_start

pub program_named-requires : goal.program_named-requires
program_named-requires g c = room_on c.loop-name.invariant c.requires

pub returns-in_err-found : goal.returns-in_err-found
returns-in_err-found g c =
    let l = c.loop-name in
    leads_stop (leads_as (first_program-drop c.args.names.now l.name-index c.loop-name-test.true) l.invariant) c.in_err-found.ensures
    c.from_residual.ensures.1

pub returns-in-Some : goal.returns-in-Some
returns-in-Some g c =
    let l = c.loop-name in
    leads_end (leads_as (first_program-drop c.args.names.now l.name-index c.loop-name-test.true) l.invariant)
    (carries_then {x = c.in_ok-found.found} c.in_ok-found.ensures
    (carries_as (ap (λ p. or_else p (first_program (all_from c.args.names.now (l.name-index + 1)))) (sym c.in-Some.is)) (carries_give refl)))

pub loop-name-preserved : goal.loop-name-preserved
loop-name-preserved g c =
    let l = c.loop-name in
    leads_as (ap (λ p. or_else p (first_program (all_from c.args.names.now (l.name-index + 1)))) c.in_default.is)
    (leads_on {x = c.in_ok-found.found} (leads_as (first_program-drop c.args.names.now l.name-index c.loop-name-test.true) l.invariant)
    c.in_ok-found.ensures)

pub returns : goal.returns
unfolding first_program
returns g c =
    let l = c.loop-name in
    leads_end (leads_as (first_program-end c.args.names.now l.name-index c.loop-name-test.false) l.invariant) (carries_give refl)
