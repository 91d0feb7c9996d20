use Rattle.std.proofs.Common.{sym, ap, ◌∙◌}
use Rattle.ports.specs.Outputs.{puts}
use Rattle.ninja.specs.Escapes.{value_rest_text}
use Rattle.ninja.specs.Steps.{quoted_steps}
use Rattle.ninja.specs.Words.{single_quoted_word}
use Rattle.ninja.proofs.Puts.{writes_over}
use Rattle.ninja.proofs.WordSteps.{quoted_is}
use Rattle.ninja.proofs.WordTexts.{bare_value}
use Rattle.ninja.proofs.words.write_word_as.Goals as goal

pub returns-then-bare : goal.returns-then-bare
returns-then-bare g c =
    let word = c.args.word.now in
    rw c.if-bare.true
    (writes_over (puts c.as_bytes.result.now) (puts (value_rest_text word))
    (ap puts (c.as_bytes.ensures.value ∙ sym (bare_value word (c.requires.bare c.if-bare.true)))) c.put_all.ensures)

pub returns-else-bare : goal.returns-else-bare
returns-else-bare g c =
    let word = c.args.word.now in
    rw c.if-bare.false (writes_over (quoted_steps word) (puts (value_rest_text (single_quoted_word word))) (quoted_is word) c.write_quoted.ensures)
