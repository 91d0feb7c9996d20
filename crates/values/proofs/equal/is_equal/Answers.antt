use Rattle.values.specs.View.{data_of}
use Rattle.values.proofs.SameLemmas.{same_from_iff}
use Rattle.values.proofs.equal.is_equal.Goals as goal

pub returns-clause-test : goal.returns-clause-test
returns-clause-test c = same_from_iff (data_of c.args.value.now) (data_of c.args.other.now) c.are_equal.result c.are_equal.ensures
