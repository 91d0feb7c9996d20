use Rattle.std.proofs.Common.{◌++◌, ◌-◌, length, take, drop, sym, ap, ◌∙◌, option_map}
use Rattle.ports.specs.Outputs.{puts}
use Rattle.build.specs.edge.Texts.{texts}
use Rattle.ninja.specs.Escapes.{value_rest_text, value_text}
use Rattle.ninja.specs.Steps.{lone_redirect_steps, words_steps}
use Rattle.ninja.specs.Words.{first_word_text, later_words_text, redirect_text, words_text}
use Rattle.ninja.proofs.Puts.{writes_over}
use Rattle.ninja.proofs.WordSteps.{lone_redirect_is, words_is}
use Rattle.ninja.proofs.WordTexts.{no_words_value, some_words_value}
use Rattle.ninja.proofs.words.write_words.Goals as goal

pub returns-in-empty : goal.returns-in-empty
returns-in-empty g c =
    let words = c.args.words.now in
    let file = option_map (λ s. s.now) c.args.redirect in
    writes_over (lone_redirect_steps file) (puts (value_text (words_text (texts words) file)))
    (lone_redirect_is file ∙ ap puts (sym (no_words_value words file c.in-empty.len_below))) c.write_lone_redirect.ensures

pub returns-in-len1-up : goal.returns-in-len1-up
returns-in-len1-up g c =
    let words = c.args.words.now in
    let file = option_map (λ s. s.now) c.args.redirect in
    let later = take (length words - 1) (drop 1 words) in
    let first = c.as_str.result.now in
    let all = value_rest_text (first_word_text first) ++ (value_rest_text (later_words_text (texts later)) ++ value_rest_text (redirect_text file)) in
    rw (some_words_value words c.first-item.result file c.in-len1-up.len_at_least)
    (rw (← c.first-item.is, ← c.as_str.ensures.value)
    (writes_over (words_steps first later file) (puts all) (words_is first later file) c.write_words_from.ensures))
