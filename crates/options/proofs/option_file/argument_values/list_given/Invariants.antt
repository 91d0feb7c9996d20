use Rattle.std.proofs.Common.{◌≡◌, map}
use Rattle.option_values.specs.View.{strings_in}
use Rattle.options.specs.option_file.Given.{list_given}
use Rattle.options.specs.option_file.View.{given_in}
use Rattle.options.proofs.Items.{listed}
use Rattle.options.proofs.option_file.argument_values.list_given.Given as goal

-- the texts so far and what is left are all
abbrev pub invariant-loop-item : goal.invariant-loop-item
invariant-loop-item l = list_given (map given_in l.fn.items.items)
    ≡ listed (strings_in l.texts.items) (map given_in l.item-iterator.rest.items)
