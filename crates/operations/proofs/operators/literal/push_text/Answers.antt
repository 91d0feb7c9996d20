use Rattle.std.proofs.Common.{◌≡◌, [], length, arith}
use Rattle.std.proofs.lemmas.Grind.{common_steps}
use Rattle.operations.proofs.TextItems.{lies_there, puts_text}
use Rattle.operations.proofs.operators.literal.push_text.Goals as goal

pub returns : goal.returns
returns c =
    let place : c.len-at.result ≡ length c.args.values.now.items = grind (arith, common_steps) in
    let none : c.in-Text.made ≡ [] =
    lies_there c.args.values.now.items c.push.new.self.items c.len-at.result c.empty.result c.in-Text.made c.index_mut.result.now _ place
    c.in_ok-push.ensures.items c.index_mut.ensures.value c.in-Text.is c.empty.ensures in
    puts_text c.args.values.now.items c.push.new.self.items c.len-at.result c.empty.result c.in-Text.made c.push-in-Text.new.self c.args.text.now
    c.in_ok-put-in-Text.put place c.in_ok-push.ensures.items none c.in_ok-put-in-Text.ensures.pushed
