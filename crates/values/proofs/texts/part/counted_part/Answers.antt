use Rattle.std.proofs.Common.{◌≡◌, ◌-◌, sym, ◌∙◌, ap, take, drop, length}
use Rattle.std.specs.Str.{chars, encode_utf8_all}
use Rattle.std.proofs.lemmas.Str.{chars_from_encodes}
use Rattle.values.specs.texts.Part.{place_or, items_between}
use Rattle.values.proofs.texts.part.counted_part.Goals as goal

pub returns : goal.returns
returns c =
    let text = c.args.text.now in
    let start = c.place_or-start.result in
    let middle : chars c.without_chars-rest.result.now ≡ drop start (chars text) = sym
    (chars_from_encodes (drop start (chars text)) c.without_chars-rest.result.now c.without_chars-rest.utf8
    (sym c.without_chars-rest.ensures.text)) in
    let begins : start ≡ place_or c.args.from (length (chars text)) 0 = c.place_or-start.ensures.place
    ∙ c.count_for-count.ensures.start in
    let ends : c.place_or-end.result ≡ place_or c.args.to (length (chars text)) (length (chars text)) = c.place_or-end.ensures.place
    ∙ c.count_for-count.ensures.end in
    c.first_chars.ensures
    ∙ ap (λ n. encode_utf8_all (take n (chars c.without_chars-rest.result.now))) c.saturating_sub.ensures
    ∙ ap (λ cs. encode_utf8_all (take (c.place_or-end.result - start) cs)) middle
    ∙ ap (λ s. encode_utf8_all (items_between s c.place_or-end.result (chars text))) begins
    ∙ ap (λ e. encode_utf8_all (items_between (place_or c.args.from (length (chars text)) 0) e (chars text))) ends
