use Rattle.std.proofs.Common.{◌≡◌, ℕ, ℤ, List, Option, Some, None, ◌-◌, ◌≤◌, length, take, drop, max, sym, ap, ◌∙◌, arith}
use Rattle.std.specs.Str.{chars, encode_utf8_all, IsAscii}
use Rattle.std.proofs.lemmas.Str.{chars-IsAscii, encodes-IsAscii, IsAscii-take, IsAscii-drop}
use Rattle.values.specs.texts.Part.{part, place_or, characters_between, items_between}
use Rattle.values.proofs.texts.part.ascii_part.Goals as goal

-- the characters of such a text are its bytes
bytes_between : (from to : Option ℤ) (text : List ℕ) → IsAscii text → items_between (place_or from (length text) 0)
    (place_or to (length text) (length text)) text ≡ part from to text
bytes_between from to text ascii =
    let start = place_or from (length text) 0 in
    let end = place_or to (length text) (length text) in
    sym (encodes-IsAscii (take (end - start) (drop start text)) (IsAscii-take (drop start text) (end - start) (IsAscii-drop text start ascii)))
    ∙ ap (λ cs. encode_utf8_all (characters_between from to cs)) (sym (chars-IsAscii text ascii))

max_sub : (a b : ℕ) → max a b - b ≡ a - b
max_sub a b = omega arith

pub returns : goal.returns
returns c =
    let text = c.args.text.now in
    c.range.ensures.value
    ∙ ap (λ n. take n (drop c.place_or-start.result text)) (ap (λ m. m - c.place_or-start.result) c.max-end.ensures ∙ max_sub c.place_or.result c.place_or-start.result)
    ∙ ap (λ s. items_between s c.place_or.result text) c.place_or-start.ensures.place
    ∙ ap (λ e. items_between (place_or c.args.from (length text) 0) e text) c.place_or.ensures.place
    ∙ bytes_between c.args.from c.args.to text c.requires
