use Rattle.std.proofs.Common.{◌≡◌, map, drop}
use Rattle.syntax.specs.ExpressionTree.{argument_of}
use Rattle.options.specs.option_file.Unfit.{first_refused}
use Rattle.options.proofs.option_file.refusals.first_refused.Given as goal

-- the arguments that are left decide
abbrev pub invariant-loop-argument : goal.invariant-loop-argument
invariant-loop-argument l =
    first_refused (map argument_of (drop l.argument-index l.arguments)) ≡ first_refused (map argument_of l.arguments)
