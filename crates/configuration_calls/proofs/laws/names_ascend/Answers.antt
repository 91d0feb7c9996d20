use Rattle.configuration_calls.proofs.NameOrders.{names_do}
use Rattle.configuration_calls.proofs.laws.names_ascend.Goals as goal

pub returns : goal.returns
returns c = names_do
