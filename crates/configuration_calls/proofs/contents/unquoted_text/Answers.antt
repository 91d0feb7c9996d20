use Rattle.std.proofs.Common.{◌++◌, codes, sym, ap, ◌∙◌}
use Rattle.configuration_calls.proofs.Quotes.{both_ends, no_last}
use Rattle.configuration_calls.proofs.contents.unquoted_text.Goals as goal

pub returns-in-Some-strip_suffix : goal.returns-in-Some-strip_suffix
returns-in-Some-strip_suffix c =
    let front = c.in-Some.ensures.cases in
    let back = c.in-Some-strip_suffix.ensures.cases in
    both_ends c.args.text.now c.in-Some.rest.now c.in-Some-strip_suffix.inside.now (front.1.1 ∙ ap (λ l. codes "\"" ++ l) (sym front.2)) (back.1.1 ∙ ap (λ l. l ++ codes "\"") (sym back.2))

pub returns-in-None-strip_suffix : goal.returns-in-None-strip_suffix
returns-in-None-strip_suffix c =
    let front = c.in-Some.ensures.cases in
    no_last c.args.text.now c.in-Some.rest.now (front.1.1 ∙ ap (λ l. codes "\"" ++ l) (sym front.2)) c.in-None-strip_suffix.ensures.cases
