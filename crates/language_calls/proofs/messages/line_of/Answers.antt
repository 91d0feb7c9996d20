use Rattle.std.proofs.Common.{◌++◌, map, ap, sym, ◌∙◌}
use Rattle.values.specs.View.{data_of}
use Rattle.values.specs.printing.Pieces.{whole}
use Rattle.values.specs.printing.Printed.{text_of_value}
use Rattle.language_calls.specs.Messages.{line_of}
use Rattle.language_calls.specs.Saying.{behind_spaces}
use Rattle.language_calls.proofs.messages.line_of.Goals as goal

pub returns : goal.returns
returns c =
    let d = data_of c.in-Some.first.now in
    let ds = map data_of c.in-Some.others.now in
    c.in_ok-put_others.ensures ∙ ap (λ t. t ++ whole (behind_spaces ds)) (c.in_ok-put_value.ensures ∙ ap (λ t. t ++ text_of_value d) c.new-line.ensures.bytes) ∙ ap (λ vs. line_of (map data_of vs)) (sym c.in-Some.ensures.cases.0)
