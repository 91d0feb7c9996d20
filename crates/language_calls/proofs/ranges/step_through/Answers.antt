use Rattle.std.proofs.Common.{◌-◌, ◌+◌, arith}
use Rattle.std.proofs.lemmas.Grind.{common_steps}
use Rattle.language_calls.specs.Range.{how_many}
use Rattle.language_calls.proofs.Counting.{too_many}
use Rattle.language_calls.proofs.ranges.step_through.Goals as goal

pub returns-then-how_many-gt-MOST_ITEMS : goal.returns-then-how_many-gt-MOST_ITEMS
returns-then-how_many-gt-MOST_ITEMS c =
    let past = too_many (how_many c.args.start c.args.stop (c.args.step - 1)) c.args.start (c.args.step - 1 + 1)
    (omega (arith, c.how_many.ensures, c.if-how_many-gt-MOST_ITEMS.true)) in
    grind (arith, common_steps, past)
