use Rattle.std.proofs.Common.{sym}
use Rattle.values.specs.View.{data_of}
use Rattle.expressions.proofs.Walking.{loops_dictionary}
use Rattle.expressions.proofs.loops.check_entries.Goals as goal

pub returns-in-Some : goal.returns-in-Some
returns-in-Some c = loops_dictionary (data_of c.args.whole.now) _ (sym c.in-Some.ensures)
