use Rattle.std.proofs.Common.{ℕ, List, [], Bor, get_or, refl, arith}
use Rattle.std.proofs.lemmas.Grind.{common_steps}
use Rattle.operations.proofs.TextItems.{texts_more, texts_past}
use Rattle.operations.proofs.operators.literal.text_values.Goals as goal

pub loop-text-preserved : goal.loop-text-preserved
loop-text-preserved c =
    let d : Bor (List ℕ) = record { ref_ptr = (0, 0); now = [] } in
    let t = get_or c.args.texts.now c.loop-text.text-index d in
    let put = rw c.in_default.is at c.in_ok-refusal.ensures in
    texts_more _ _ put.0 c.args.texts.now c.loop-text.text-index d t _ c.loop-text-test.true refl put.2 put.1 c.loop-text.invariant

pub loop-text-init : goal.loop-text-init
loop-text-init c = grind (arith, common_steps)

pub returns-in-Err : goal.returns-in-Err
returns-in-Err c =
    let d : Bor (List ℕ) = record { ref_ptr = (0, 0); now = [] } in
    let t = get_or c.args.texts.now c.loop-text.text-index d in
    let past = rw c.in-Err.is at c.in_ok-refusal.ensures in
    texts_past _ c.args.texts.now c.loop-text.text-index d t _ _ c.loop-text-test.true refl past c.loop-text.invariant

pub returns : goal.returns
returns c = grind (arith, common_steps)
