use Rattle.operations.proofs.KeyOrders.{keys_do}
use Rattle.operations.proofs.methods.laws.keys_ascend.Goals as goal

pub returns : goal.returns
returns c = keys_do
