use Rattle.std.proofs.Common.{ap, arith, Some, ◌∙◌, sym}
use Rattle.arguments.specs.Misfits.{Twice}
use Rattle.arguments.proofs.Names.{comes_again, goes_on}
use Rattle.arguments.proofs.reader.twice_in_few.Goals as goal

pub returns-then-is_named : goal.returns-then-is_named
returns-then-is_named c =
    let ns = c.args.named.now in
    let name = c.as_str.result.now in
    ap (λ t. Some (Twice t)) (c.as_str-then-is_named.ensures.text ∙ sym c.as_str.ensures.text)
    ∙ comes_again ns c.loop-i.i c.index-named-i.result name (omega arith) c.index-named-i.is c.as_str.ensures.text (sym c.is_named.ensures ∙ c.if-is_named.true)
    ∙ c.loop-i.invariant

pub loop-i-preserved : goal.loop-i-preserved
loop-i-preserved c =
    let ns = c.args.named.now in
    let name = c.as_str.result.now in
    goes_on ns c.loop-i.i c.index-named-i.result name (omega arith) c.index-named-i.is c.as_str.ensures.text (sym c.is_named.ensures ∙ c.if-is_named.false)
    ∙ c.loop-i.invariant
