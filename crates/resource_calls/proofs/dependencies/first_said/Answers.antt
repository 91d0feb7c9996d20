use Rattle.std.proofs.Common.{◌+◌, ap, refl, sym}
use Rattle.arguments.specs.Arguments.{arguments_data}
use Rattle.world.proofs.Answering.{carries_as, carries_give, carries_then}
use Rattle.world.proofs.Leading.{leads_start, leads_on, leads_end, leads_stop, leads_as}
use Rattle.resource_calls.specs.Dependency.{first_said, said_or}
use Rattle.resource_calls.proofs.Looking.{all_from, first_said-drop, first_said-end}
use Rattle.resource_calls.proofs.dependencies.first_said.Goals as goal

pub loop-name-init : goal.loop-name-init
loop-name-init g c = leads_start

pub returns-in_err-said : goal.returns-in_err-said
returns-in_err-said g c =
    let l = c.loop-name in
    leads_stop (leads_as (first_said-drop (arguments_data c.args.arguments.now) c.args.names.now l.name-index c.loop-name-test.true) l.invariant) c.in_err-said.ensures
    c.from_residual.ensures.1

pub returns-in-Some : goal.returns-in-Some
returns-in-Some g c =
    let l = c.loop-name in
    let a = arguments_data c.args.arguments.now in
    leads_end (leads_as (first_said-drop a c.args.names.now l.name-index c.loop-name-test.true) l.invariant)
    (carries_then {x = c.in_ok-said.said} c.in_ok-said.ensures
    (carries_as (ap (λ p. said_or p (first_said a (all_from c.args.names.now (l.name-index + 1)))) (sym c.in-Some.is)) (carries_give refl)))

pub loop-name-preserved : goal.loop-name-preserved
loop-name-preserved g c =
    let l = c.loop-name in
    let a = arguments_data c.args.arguments.now in
    leads_as (ap (λ p. said_or p (first_said a (all_from c.args.names.now (l.name-index + 1)))) c.in_default.is)
    (leads_on {x = c.in_ok-said.said} (leads_as (first_said-drop a c.args.names.now l.name-index c.loop-name-test.true) l.invariant)
    c.in_ok-said.ensures)

pub returns : goal.returns
unfolding first_said
returns g c =
    let l = c.loop-name in
    leads_end (leads_as (first_said-end (arguments_data c.args.arguments.now) c.args.names.now l.name-index c.loop-name-test.false) l.invariant) (carries_give refl)
