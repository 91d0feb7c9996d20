use Rattle.std.proofs.Common.{◌<◌, ◌∷◌, length, sym, ◌∙◌, ap, arith}
use Rattle.std.specs.List.{position_or_len}
use Rattle.std.proofs.lemmas.Bool.Decides.{nat_tests}
use Rattle.values.specs.texts.Pieces.{is_line_end}
use Rattle.values.specs.texts.Cut.{lines_behind}
use Rattle.values.proofs.CutLemmas.{boundary_before_end, line_at, begins_with_end}
use Rattle.values.proofs.texts.first_piece.first_line.Goals as goal

pub split_at-requires : goal.split_at-requires
split_at-requires c =
    boundary_before_end c.args.text.now c.line_length.result
    (c.line_length.ensures ∙ ap (position_or_len is_line_end) c.as_bytes.ensures.value)

pub without_end-requires : goal.without_end-requires
without_end-requires c =
    begins_with_end c.args.text.now c.split_at.result.1.now c.line_length.result
    (c.line_length.ensures ∙ ap (position_or_len is_line_end) c.as_bytes.ensures.value) c.split_at.ensures.back

pub returns-clause-first : goal.returns-clause-first
returns-clause-first c =
    let filled : 0 < length c.args.text.now = grind (arith, nat_tests) in
    line_at c.args.text.now c.line_length.result (c.line_length.ensures ∙ ap (position_or_len is_line_end) c.as_bytes.ensures.value) filled
    ∙ (λ k. sym c.split_at.ensures.front k ∷ (ap lines_behind (sym c.split_at.ensures.back) ∙ c.without_end.ensures.lines) k)
