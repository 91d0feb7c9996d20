use Rattle.std.proofs.Common.{◌∙◌, ap, string_bytes}
use Rattle.option_values.proofs.Known.{known_next}
use Rattle.option_values.proofs.choices.set_of.Goals as goal

pub loop-text-preserved : goal.loop-text-preserved
loop-text-preserved c text =
    known_next c.loop-text.known.keys _ c.args.texts.now c.in_ok-text.text c.text-item.result c.loop-text.text-index text
    (c.loop-text.invariant text) c.loop-text-test.true (c.in_ok-text.ensures.ok ∙ c.as_str.ensures.value
    ∙ ap string_bytes c.text-item.is) c.in_ok-insert.ensures.keys
