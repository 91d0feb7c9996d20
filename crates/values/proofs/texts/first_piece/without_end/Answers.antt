use Rattle.std.proofs.Common.{◌<◌, length, ◌∙◌, ap, arith}
use Rattle.std.proofs.lemmas.Bool.Decides.{nat_tests}
use Rattle.values.specs.texts.Cut.{end_length}
use Rattle.values.proofs.CutLemmas.{boundary_behind_end}
use Rattle.values.proofs.texts.first_piece.without_end.Goals as goal

pub split_at-requires : goal.split_at-requires
split_at-requires c =
    let filled : 0 < length c.args.text.now = grind (arith, nat_tests) in
    boundary_behind_end c.args.text.now c.end_length.result c.utf8.text
    (c.end_length.ensures ∙ ap end_length c.as_bytes.ensures.value) filled (c.requires filled)
