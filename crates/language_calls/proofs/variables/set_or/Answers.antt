use Rattle.std.proofs.Common.{Bor, Option, option_map, ap}
use Rattle.values.specs.Data.{Data}
use Rattle.values.specs.View.{data_of}
use Rattle.values.specs.declared.value.Value.{Value}
use Rattle.language_calls.specs.Variables.{set_or, value_or}
use Rattle.world.proofs.Answering.{carries_as, carries_none, carries_read}
use Rattle.language_calls.proofs.variables.set_or.Goals as goal

pub returns-in_err-value : goal.returns-in_err-value
returns-in_err-value g c = carries_none c.from_residual.ensures.1

pub returns : goal.returns
unfolding set_or
returns g c = carries_read (carries_as (ap (λ (v : Option Data). value_or c.args.name.now v (option_map (λ (v : Bor Value). data_of v.now) c.args.fallback)) c.in_ok-value.ensures) c.value_or.ensures)
