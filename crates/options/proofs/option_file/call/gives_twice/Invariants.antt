use Rattle.std.proofs.Common.{◌≡◌, [], drop}
use Rattle.syntax.specs.ExpressionTree.{argument_trees}
use Rattle.option_values.specs.View.{strings_in}
use Rattle.options.specs.option_file.Calls.{gives_twice}
use Rattle.options.proofs.option_file.call.gives_twice.Given as goal

-- the keys so far stand once
abbrev pub invariant-loop-argument : goal.invariant-loop-argument
invariant-loop-argument l =
    gives_twice [] (argument_trees l.arguments)
    ≡ gives_twice (strings_in l.keys.keys) (argument_trees (drop l.argument-index l.arguments))
