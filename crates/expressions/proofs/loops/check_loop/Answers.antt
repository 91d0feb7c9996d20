use Rattle.std.proofs.Common.{sym, subst}
use Rattle.values.specs.View.{data_of}
use Rattle.expressions.specs.Rounds.{Loops}
use Rattle.expressions.proofs.Walking.{rounds_few}
use Rattle.expressions.proofs.loops.check_loop.Goals as goal

pub returns-then-has_second-clause-loops : goal.returns-then-has_second-clause-loops
returns-then-has_second-clause-loops c = subst (λ b. Loops b (data_of c.args.whole.now) c.check_entries.result) (sym c.if-has_second.true) c.check_entries.ensures

pub returns-then-has_second-clause-few : goal.returns-then-has_second-clause-few
returns-then-has_second-clause-few c = rounds_few (data_of c.args.whole.now) c.values_have_few_items.ensures

pub returns-else-has_second-clause-loops : goal.returns-else-has_second-clause-loops
returns-else-has_second-clause-loops c = subst (λ b. Loops b (data_of c.args.whole.now) c.check_items.result) (sym c.if-has_second.false) c.check_items.ensures

pub returns-else-has_second-clause-few : goal.returns-else-has_second-clause-few
returns-else-has_second-clause-few c = rounds_few (data_of c.args.whole.now) c.values_have_few_items.ensures
