use Rattle.std.proofs.Common.{ap, sym, ◌∙◌}
use Rattle.arguments.specs.Arguments.{arguments_data}
use Rattle.values.specs.View.{data_of}
use Rattle.world.specs.Deed.{refuse}
use Rattle.world.proofs.Answering.{carries_as, carries_refuse}
use Rattle.interp.specs.ByName.{method_call}
use Rattle.interp.proofs.by_name.call_method.Goals as goal

pub returns-in-Err-clause-does : goal.returns-in-Err-clause-does
returns-in-Err-clause-does g c =
    carries_as (ap (λ r. method_call r (data_of c.args.receiver.now) c.args.name.now (arguments_data c.args.arguments.now))
    (sym c.in-Err.is ∙ c.method_of.ensures))
    (carries_as (ap (refuse c.in-Err.refusal) c.as_str.ensures) (carries_refuse c.refuse.ensures))
