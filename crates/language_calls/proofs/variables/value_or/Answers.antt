use Rattle.std.proofs.Common.{Bor, Some, None, option_map, ap, refl, sym}
use Rattle.values.specs.View.{data_of}
use Rattle.values.specs.declared.value.Value.{Value}
use Rattle.language_calls.specs.Variables.{value_or}
use Rattle.world.proofs.Answering.{carries_as, carries_none, carries_give, carries_refuse}
use Rattle.language_calls.proofs.variables.value_or.Goals as goal

pub returns-in_err-clone-in-Some-fallback : goal.returns-in_err-clone-in-Some-fallback
returns-in_err-clone-in-Some-fallback g c = carries_none c.from_residual.ensures.1

pub returns-in-Some : goal.returns-in-Some
unfolding value_or
returns-in-Some g c = carries_as (ap (λ o. value_or c.args.name.now (option_map data_of o) (option_map (λ (v : Bor Value). data_of v.now) c.args.fallback)) (sym c.in-Some.is)) (carries_give refl)

pub returns-in_ok-clone-in-Some-fallback : goal.returns-in_ok-clone-in-Some-fallback
unfolding value_or
returns-in_ok-clone-in-Some-fallback g c = carries_as (ap (λ o. value_or c.args.name.now (option_map data_of o) (option_map (λ (v : Bor Value). data_of v.now) c.args.fallback)) (sym c.in-None.is)) (carries_as (ap (λ o. value_or c.args.name.now None (option_map (λ (v : Bor Value). data_of v.now) o)) (sym c.in-Some-fallback.is)) (carries_give (ap Some c.in_ok-clone-in-Some-fallback.ensures.cases)))

pub returns-in-None-fallback : goal.returns-in-None-fallback
unfolding value_or
returns-in-None-fallback g c = carries_as (ap (λ o. value_or c.args.name.now (option_map data_of o) (option_map (λ (v : Bor Value). data_of v.now) c.args.fallback)) (sym c.in-None.is)) (carries_as (ap (λ o. value_or c.args.name.now None (option_map (λ (v : Bor Value). data_of v.now) o)) (sym c.in-None-fallback.is)) (carries_refuse c.refuse.ensures))
