use Rattle.std.proofs.Common.{◌≡◌, [], map, drop}
use Rattle.syntax.specs.ExpressionTree.{argument_of}
use Rattle.option_values.specs.View.{strings_in}
use Rattle.options.specs.option_file.Calls.{first_twice}
use Rattle.options.proofs.option_file.call.first_twice.Given as goal

-- the arguments that are left decide
abbrev pub invariant-loop-argument : goal.invariant-loop-argument
invariant-loop-argument l =
    first_twice [] (map argument_of l.arguments)
    ≡ first_twice (strings_in l.keys.keys) (map argument_of (drop l.argument-index l.arguments))
