use Rattle.std.proofs.Common.{◌≡◌, drop, map}
use Rattle.syntax.specs.ExpressionTree.{expression_of, expressions}
use Rattle.options.specs.option_file.Given.{items_given}
use Rattle.options.proofs.Items.{found}
use Rattle.options.proofs.option_file.argument_values.items_given.Given as goal

-- all items are those so far and those that are left
abbrev pub invariant-loop-item : goal.invariant-loop-item
invariant-loop-item l = items_given (expressions (map expression_of l.items)) ≡ found l.all.items (drop l.item-index l.items)
