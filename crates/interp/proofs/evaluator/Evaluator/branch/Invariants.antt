use Rattle.std.proofs.Common.{◌≡◌, ◌<◌, ℕ, true}
use Rattle.std.specs.List.{list_all}
use Rattle.interp.specs.Blocks.{is_simple_at, statements_of}
use Rattle.interp.specs.declared.block.Block.TheVariants.{Part}
use Rattle.interp.proofs.evaluator.Evaluator.branch.Given as goal

-- the parts before have simple statements alone
abbrev pub invariant-loop-part : goal.invariant-loop-part
invariant-loop-part g l = (k : ℕ) → k < l.part → list_all (is_simple_at l.code) (statements_of l.code (Part l.number k)) ≡ true
