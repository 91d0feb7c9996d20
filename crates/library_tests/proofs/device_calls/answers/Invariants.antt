use Rattle.std.proofs.Common.{◌≤◌}
use Rattle.library_tests.proofs.device_calls.answers.Given as goal

abbrev pub invariant-loop-call : goal.invariant-loop-call
invariant-loop-call g l = (g.T.Tree.seen l.tree).failures ≤ l.call-index
