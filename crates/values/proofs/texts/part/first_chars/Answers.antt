use Rattle.std.proofs.Common.{◌≡◌, ◌++◌, sym, ◌∙◌, ap, take, arith}
use Rattle.std.specs.Str.{chars, encode_utf8_all}
use Rattle.std.proofs.lemmas.Grind.{common_steps}
use Rattle.values.proofs.CharsLemmas.{cut_chars, front_is, front_boundary}
use Rattle.values.proofs.texts.part.first_chars.Goals as goal

pub range-requires-clause-end_boundary : goal.range-requires-clause-end_boundary
range-requires-clause-end_boundary c =
    let text = c.args.text.now in
    let whole : text ≡ encode_utf8_all
    (take c.args.count (chars text)) ++ c.without_chars-rest.result.now = cut_chars text c.args.count c.utf8.text
    ∙ ap (λ bs. encode_utf8_all (take c.args.count (chars text)) ++ bs) (sym c.without_chars-rest.ensures.text) in
    front_boundary text (encode_utf8_all (take c.args.count (chars text))) c.without_chars-rest.result.now whole c.without_chars-rest.utf8

pub returns : goal.returns
returns c =
    let text = c.args.text.now in
    let whole : text ≡ encode_utf8_all
    (take c.args.count (chars text)) ++ c.without_chars-rest.result.now = cut_chars text c.args.count c.utf8.text
    ∙ ap (λ bs. encode_utf8_all (take c.args.count (chars text)) ++ bs) (sym c.without_chars-rest.ensures.text) in
    let value = c.range.ensures.value in
    let front = front_is text (encode_utf8_all (take c.args.count (chars text))) c.without_chars-rest.result.now whole in
    grind (arith, common_steps)
