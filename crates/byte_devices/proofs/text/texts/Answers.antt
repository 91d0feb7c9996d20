use Rattle.std.proofs.Common.{map, string_bytes, ap}
use Rattle.byte_devices.proofs.SpelledTexts.{none_read, one_read, no_texts, all_read}
use Rattle.byte_devices.proofs.text.texts.Goals as goal

pub loop-at-init : goal.loop-at-init
loop-at-init c = none_read c.args.bytes.now _ (ap (map string_bytes) c.new-found.ensures.items)

pub loop-at-preserved : goal.loop-at-preserved
loop-at-preserved c = one_read c.args.bytes.now c.loop-at.at _ _ c.in-Some.text.now c.loop-at.invariant c.in-Some.ensures.some c.in_ok-push_copy.ensures

pub returns-in_default-clause-bad : goal.returns-in_default-clause-bad
returns-in_default-clause-bad c = λ _. no_texts c.args.bytes.now c.loop-at.at _ c.loop-at.invariant c.loop-at-test.true c.in_default.ensures.none

pub returns-clause-texts : goal.returns-clause-texts
returns-clause-texts c = all_read c.args.bytes.now c.loop-at.at _ c.loop-at.invariant c.loop-at-test.false
