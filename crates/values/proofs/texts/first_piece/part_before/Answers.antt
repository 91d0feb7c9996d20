use Rattle.std.proofs.Common.{◌≡◌, ◌<◌, length, ◌∙◌, ap, arith, nat_eq}
use Rattle.std.specs.List.{position_or_len}
use Rattle.std.proofs.lemmas.Bool.Decides.{nat_tests}
use Rattle.values.proofs.ByteLemmas.{boundary_before_byte, boundary_behind_byte, no_byte, part_before_byte}
use Rattle.values.proofs.texts.first_piece.part_before.Goals as goal

pub split_at-requires : goal.split_at-requires
split_at-requires c =
    boundary_before_byte c.args.byte c.args.text.now c.length_before.result c.requires
    (c.length_before.ensures ∙ ap (position_or_len (λ b. nat_eq b c.args.byte)) c.as_bytes.ensures.value)

pub returns-then-is_empty-clause-first : goal.returns-then-is_empty-clause-first
returns-then-is_empty-clause-first c =
    let empty : length c.split_at.result.1.now ≡ 0 = grind (arith, nat_tests) in
    no_byte c.args.byte c.args.text.now c.split_at.result.0.now c.split_at.result.1.now c.length_before.result
    (c.length_before.ensures ∙ ap (position_or_len (λ b. nat_eq b c.args.byte)) c.as_bytes.ensures.value)
    c.split_at.ensures.front c.split_at.ensures.back empty

pub split_at-requires-2 : goal.split_at-requires-2
split_at-requires-2 c =
    let filled : 0 < length c.split_at.result.1.now = grind (arith, nat_tests) in
    boundary_behind_byte c.args.byte c.args.text.now c.split_at.result.1.now c.length_before.result c.utf8.text c.requires
    (c.length_before.ensures ∙ ap (position_or_len (λ b. nat_eq b c.args.byte)) c.as_bytes.ensures.value)
    c.split_at.ensures.back filled

pub returns-clause-first : goal.returns-clause-first
returns-clause-first c =
    let filled : 0 < length c.split_at.result.1.now = grind (arith, nat_tests) in
    part_before_byte c.args.byte c.args.text.now c.split_at.result.0.now c.split_at.result.1.now c.split_at-2.result.1.now
    c.length_before.result
    (c.length_before.ensures ∙ ap (position_or_len (λ b. nat_eq b c.args.byte)) c.as_bytes.ensures.value)
    c.split_at.ensures.front c.split_at.ensures.back c.split_at-2.ensures.back filled
