use Rattle.std.proofs.Common.{◌≡◌, map, drop}
use Rattle.syntax.specs.ExpressionTree.{argument_of}
use Rattle.options.specs.option_file.Calls.{first_left_out}
use Rattle.options.proofs.option_file.call.first_left_out.Given as goal

-- the arguments that are left decide
abbrev pub invariant-loop-argument : goal.invariant-loop-argument
invariant-loop-argument l =
    first_left_out (map argument_of (drop l.argument-index l.arguments)) ≡ first_left_out (map argument_of l.arguments)
