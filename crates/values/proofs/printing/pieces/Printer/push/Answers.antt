use Rattle.std.proofs.Common.{◌++◌, ap, ◌∙◌}
use Rattle.values.specs.printing.Parts.{remaining_pieces, part_pieces}
use Rattle.values.proofs.PieceLemmas.{left_push}
use Rattle.values.proofs.printing.pieces.Printer.push.Goals as goal

pub returns : goal.returns
returns c =
    ap remaining_pieces c.in_ok-push.ensures.items ∙ left_push c.self.inside.parts.items c.args.part
    ∙ ap (λ x. part_pieces c.args.part ++ x) c.self.view_is
