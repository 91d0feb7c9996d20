use Rattle.std.proofs.Common.{◌≡◌, drop}
use Rattle.syntax.specs.ExpressionTree.{argument_trees}
use Rattle.options.specs.option_file.Calls.{keywords_from}
use Rattle.options.specs.option_file.Keywords.{nothing_given}
use Rattle.options.specs.option_file.KeywordsView.{keywords_in}
use Rattle.options.proofs.option_file.call.keywords_from.Given as goal

-- what all arguments give is what the others give after those so far
abbrev pub invariant-loop-argument : goal.invariant-loop-argument
invariant-loop-argument l =
    keywords_from nothing_given (argument_trees l.arguments)
    ≡ keywords_from (keywords_in l.keywords) (argument_trees (drop l.argument-index l.arguments))
