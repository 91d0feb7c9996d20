use Rattle.std.proofs.Common.{◌≡◌, ◌<◌, ◌∷◌, length, sym, ◌∙◌, ap, arith}
use Rattle.std.specs.List.{prefix_len, position_or_len}
use Rattle.std.proofs.lemmas.Bool.Decides.{nat_tests}
use Rattle.values.specs.texts.Strip.{is_blank}
use Rattle.values.specs.texts.Pieces.{words}
use Rattle.values.proofs.CutLemmas.{boundary_after_blanks, boundary_before_blank, word_at, word_is_filled, no_word}
use Rattle.values.proofs.texts.first_piece.first_word.Goals as goal

pub split_at-requires : goal.split_at-requires
split_at-requires c =
    boundary_after_blanks c.args.text.now c.blank_length.result c.utf8.text
    (c.blank_length.ensures ∙ ap (prefix_len is_blank) c.as_bytes.ensures.value)

pub returns-then-is_empty-clause-first : goal.returns-then-is_empty-clause-first
returns-then-is_empty-clause-first c =
    let empty : length c.split_at.result.1.now ≡ 0 = grind (arith, nat_tests) in
    no_word c.args.text.now c.blank_length.result (c.blank_length.ensures ∙ ap (prefix_len is_blank) c.as_bytes.ensures.value)
    (ap length (sym c.split_at.ensures.back) ∙ empty)

pub split_at-requires-2 : goal.split_at-requires-2
split_at-requires-2 c =
    boundary_before_blank c.split_at.result.1.now c.word_length.result
    (c.word_length.ensures ∙ ap (position_or_len is_blank) c.as_bytes-2.ensures.value)

pub returns-clause-first : goal.returns-clause-first
returns-clause-first c =
    let rest = c.split_at.result.1.now in
    let filled : 0 < length rest = grind (arith, nat_tests) in
    word_at c.args.text.now rest c.blank_length.result c.word_length.result
    (c.blank_length.ensures ∙ ap (prefix_len is_blank) c.as_bytes.ensures.value)
    c.split_at.ensures.back (c.word_length.ensures ∙ ap (position_or_len is_blank) c.as_bytes-2.ensures.value) filled
    ∙ (λ k. sym c.split_at-2.ensures.front k ∷ words (sym c.split_at-2.ensures.back k))

pub returns-clause-shorter : goal.returns-clause-shorter
returns-clause-shorter c =
    let rest = c.split_at.result.1.now in
    let filled : 0 < length rest = grind (arith, nat_tests) in
    let some = word_is_filled c.args.text.now rest c.blank_length.result c.word_length.result
    (c.blank_length.ensures ∙ ap (prefix_len is_blank) c.as_bytes.ensures.value) c.split_at.ensures.back
    (c.word_length.ensures ∙ ap (position_or_len is_blank) c.as_bytes-2.ensures.value) filled in
    omega (arith, c.split_at.ensures.back_len, c.split_at-2.ensures.back_len)
