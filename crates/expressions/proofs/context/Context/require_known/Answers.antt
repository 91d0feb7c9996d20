use Rattle.std.proofs.Common.{option_map, ap, refl, sym}
use Rattle.values.specs.View.{data_of}
use Rattle.expressions.specs.Forms.{known_value}
use Rattle.expressions.proofs.Evaluating.{given_as, given_give, given_refuse, given_same}
use Rattle.expressions.proofs.context.Context.require_known.Goals as goal

pub returns-in-Some-clause-gives : goal.returns-in-Some-clause-gives
returns-in-Some-clause-gives g c = λ files h.
    given_as (ap (λ o. known_value c.args.line c.args.name.now (option_map data_of o)) (sym c.in-Some.is)) (given_give h refl)

pub returns-in_err-refuse-in-None-clause-gives : goal.returns-in_err-refuse-in-None-clause-gives
returns-in_err-refuse-in-None-clause-gives g c = λ files h.
    given_as (ap (λ o. known_value c.args.line c.args.name.now (option_map data_of o)) (sym c.in-None.is)) (given_same (given_refuse h c.in_err-refuse-in-None.ensures) c.from_residual.ensures.1)

pub returns-in_ok-refuse-in-None-clause-gives : goal.returns-in_ok-refuse-in-None-clause-gives
returns-in_ok-refuse-in-None-clause-gives g c = λ files h.
    given_as (ap (λ o. known_value c.args.line c.args.name.now (option_map data_of o)) (sym c.in-None.is)) (given_refuse h c.in_ok-refuse-in-None.ensures)
