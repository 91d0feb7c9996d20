use Rattle.values.specs.View.{data_of}
use Rattle.expressions.proofs.Walking.{rounds_few}
use Rattle.interp.proofs.law.loops_are_few.Goals as goal

pub returns : goal.returns
returns c = rounds_few (data_of c.args.value.now) c.values_have_few_items.ensures
