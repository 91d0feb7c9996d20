use Rattle.option_values.specs.View.{strings_in}
use Rattle.options.proofs.Arguments.{twice_first, twice_found, twice_more, twice_none}
use Rattle.options.proofs.option_file.call.gives_twice.Goals as goal

pub loop-argument-init : goal.loop-argument-init
loop-argument-init c = twice_first c.args.arguments.now c.new_set-keys.result.keys c.new_set-keys.ensures.keys

pub returns-then-branch : goal.returns-then-branch
returns-then-branch c = twice_found c.args.arguments.now (strings_in c.loop-argument.keys.keys) c.loop-argument.argument-index
    c.argument-item.result c.in_ok-comes_again.field-0
    c.loop-argument.invariant c.loop-argument-test.true c.argument-item.is c.in_ok-comes_again.ensures.tested c.if-branch.true

pub loop-argument-preserved : goal.loop-argument-preserved
loop-argument-preserved c = twice_more c.args.arguments.now (strings_in c.loop-argument.keys.keys)
    (strings_in c.comes_again.new.keys.keys) c.loop-argument.argument-index c.argument-item.result c.in_ok-comes_again.field-0
    c.loop-argument.invariant c.loop-argument-test.true c.argument-item.is c.in_ok-comes_again.ensures.tested c.if-branch.false
    (c.in_ok-comes_again.ensures.added c.if-branch.false)

pub returns : goal.returns
returns c = twice_none c.args.arguments.now (strings_in c.loop-argument.keys.keys) c.loop-argument.argument-index
    c.loop-argument.invariant c.loop-argument-test.false
