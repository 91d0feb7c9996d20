use Rattle.std.proofs.Common.{◌∙◌, sym, ap}
use Rattle.std.specs.Option.{option_map}
use Rattle.options.specs.option_file.KeywordsView.{keywords_in}
use Rattle.options.proofs.Arguments.{keywords_first, keywords_none, keywords_more, keywords_end}
use Rattle.options.proofs.option_file.call.keywords_from.Goals as goal

pub loop-argument-init : goal.loop-argument-init
loop-argument-init c = keywords_first c.args.arguments.now (keywords_in c.new-keywords.result) c.new-keywords.ensures

pub returns-in_default : goal.returns-in_default
returns-in_default c = keywords_none c.args.arguments.now (keywords_in c.loop-argument.keywords) c.loop-argument.argument-index
    c.argument-item.result
    c.loop-argument.invariant c.loop-argument-test.true c.argument-item.is (ap (option_map keywords_in) (sym c.in_default.is)
    ∙ c.in_ok-next.ensures)

pub loop-argument-preserved : goal.loop-argument-preserved
loop-argument-preserved c = keywords_more c.args.arguments.now (keywords_in c.loop-argument.keywords) (keywords_in c.in-Some.next)
    c.loop-argument.argument-index c.argument-item.result
    c.loop-argument.invariant c.loop-argument-test.true c.argument-item.is (ap (option_map keywords_in) (sym c.in-Some.is)
    ∙ c.in_ok-next.ensures)

pub returns : goal.returns
returns c = keywords_end c.args.arguments.now (keywords_in c.loop-argument.keywords) c.loop-argument.argument-index
    c.loop-argument.invariant c.loop-argument-test.false
