use Rattle.std.proofs.Common.{◌≡◌, ℕ, List, ◌++◌, sym, ◌∙◌, ap, arith, take, drop, length}
use Rattle.std.specs.Str.{chars, encode_utf8_all}
use Rattle.std.proofs.lemmas.Str.{encodes-chars}
use Rattle.values.proofs.CharsLemmas.{after_char, after_end, cut_chars, rest-le}
use Rattle.values.proofs.texts.part.without_chars.Goals as goal
use Rattle.values.proofs.texts.part.without_chars.Goals.{else-each-test, then-each-test+in_default}

pub each-init : goal.each-init
each-init c = c.chars-rest.ensures.rest ∙ sym (encodes-chars c.args.text.now c.utf8.text)

pub each-preserved : goal.each-preserved
each-preserved c =
    let rest = c.each.rest.rest.now in
    let more = c.next.new.self.rest.now in
    after_char (chars c.args.text.now) c.each.counter c.in-Some.field-0 rest more c.each.invariant c.in-Some.ensures.steps.0

whole : (text rest : List ℕ) (k n : ℕ) → rest ≡ encode_utf8_all (drop k (chars text)) → k ≡ n → rest ≡ encode_utf8_all (drop n (chars text))
whole text rest k n e same = e ∙ ap (λ i. encode_utf8_all (drop i (chars text))) same

pub returns-clause-text : goal.returns-clause-text
returns-clause-text c =
    let text = c.args.text.now in
    c.as_str.ensures ∙ (elim c.each-test.branch [
      | else-each-test w ↦ ap (λ r. r.rest.now) w.rest-is
          ∙ whole text c.each.rest.rest.now c.each.counter c.args.count c.each.invariant (omega arith)
      | then-each-test+in_default w ↦
          ap (λ r. r.rest.now) (w.rest-is ∙ w.in_default.ensures.steps.0.1) ∙ c.each.invariant
          ∙ after_end (chars text) c.each.counter c.args.count (omega arith) (ap length (sym c.each.invariant)
          ∙ w.in_default.ensures.steps.0.0)
    ])

pub returns-clause-within : goal.returns-clause-within
returns-clause-within c =
    let text = c.args.text.now in
    rest-le text (encode_utf8_all (take c.args.count (chars text))) c.as_str.result.now
    (cut_chars text c.args.count c.utf8.text ∙ ap (λ bs. encode_utf8_all (take c.args.count (chars text)) ++ bs)
    (sym (returns-clause-text c)))
