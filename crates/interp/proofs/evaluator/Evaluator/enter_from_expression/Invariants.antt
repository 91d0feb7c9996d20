use Rattle.std.proofs.Common.{◌≡◌}
use Rattle.interp.proofs.Stack.{over_ends}
use Rattle.interp.proofs.evaluator.Evaluator.enter_from_expression.Given as goal

-- so many ends are on the stack
abbrev pub invariant-loop-rule : goal.invariant-loop-rule
invariant-loop-rule g l = record { pushed : l.stack.items ≡ over_ends l.fn.stack.items l._rule }
