use Rattle.std.proofs.Common.{Bor, Some, option_map, ap, refl, sym}
use Rattle.values.specs.View.{data_of}
use Rattle.values.specs.declared.value.Value.{Value}
use Rattle.world.specs.Deed.{change}
use Rattle.world.specs.World.{with_variable}
use Rattle.language_calls.specs.Variables.{set_to}
use Rattle.world.proofs.Answering.{carries_as, carries_grown, carries_none, carries_refuse, carries_wanted}
use Rattle.language_calls.proofs.variables.set_to.Goals as goal

pub returns-in_err-value-in-Some : goal.returns-in_err-value-in-Some
returns-in_err-value-in-Some g c = carries_none c.from_residual.ensures.1

pub returns-in_err-set-in-Some : goal.returns-in_err-set-in-Some
returns-in_err-set-in-Some g c = carries_wanted c.from_residual-in_err-set-in-Some.ensures.1 c.set.ensures.names

pub returns-in_ok-set-in-Some : goal.returns-in_ok-set-in-Some
unfolding set_to
returns-in_ok-set-in-Some g c = carries_as (ap (λ o. set_to c.args.name.now (option_map (λ (v : Bor Value). data_of v.now) o)) (sym c.in-Some.is)) (carries_as (ap (λ d. change (with_variable c.args.name.now (Some d)) (λ facts. refl)) c.in_ok-value-in-Some.ensures.cases) (carries_grown c.in_ok-set-in-Some.ensures.world c.in_ok-set-in-Some.ensures.names))

pub returns-in-None : goal.returns-in-None
unfolding set_to
returns-in-None g c = carries_as (ap (λ o. set_to c.args.name.now (option_map (λ (v : Bor Value). data_of v.now) o)) (sym c.in-None.is)) (carries_refuse c.refuse.ensures)
