use Rattle.std.proofs.Common.{◌≡◌, ◌+◌, drop}
use Rattle.interp.specs.Frames.{pending_rules}
use Rattle.interp.proofs.unwinding.end_all.Given as goal

-- what was ticked and what is left are all
abbrev pub invariant-loop-frame : goal.invariant-loop-frame
invariant-loop-frame g l = l.steps + pending_rules (drop l.frame-index l.stack) ≡ l.fn.steps + pending_rules l.stack
