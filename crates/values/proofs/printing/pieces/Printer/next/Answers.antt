use Rattle.std.proofs.Common.{◌≡◌, ◌∷◌, ◌++◌, sym, ap, ◌∙◌}
use Rattle.values.specs.printing.Parts.{remaining_pieces, part_pieces, piece_bytes}
use Rattle.values.proofs.PieceLemmas.{left_push}
use Rattle.values.proofs.printing.pieces.Printer.next.Goals as goal
use Rattle.values.proofs.printing.pieces.Printer.next.Goals.{in-Text, in-Value+in_ok-piece-in-Value, in-Items+in_ok-piece-in-Items}
use Rattle.values.proofs.printing.pieces.Printer.next.Goals.{in-Entries+in_ok-piece-in-Entries}

pub returns : goal.returns
returns c =
    let rest = remaining_pieces c.pop.new.self.items in
    let old : c.args.self.now ≡ part_pieces c.in-Some.part ++ rest =
    sym c.self.view_is ∙ ap remaining_pieces c.in-Some.ensures.items ∙ left_push c.pop.new.self.items c.in-Some.part in
    elim c.match-part.branch [
      | in-Text w ↦ old ∙ ap (λ p. part_pieces p ++ rest) w.in-Text.is ∙ (λ k. piece_bytes (sym w.piece-is k) ∷ sym w.self-is k)
      | in-Value+in_ok-piece-in-Value w ↦
          old ∙ ap (λ p. part_pieces p ++ rest) w.in-Value.is ∙ w.in_ok-piece-in-Value.ensures
          ∙ (λ k. piece_bytes (sym w.piece-is k) ∷ sym w.self-is k)
      | in-Items+in_ok-piece-in-Items w ↦
          old ∙ ap (λ p. part_pieces p ++ rest) w.in-Items.is ∙ w.in_ok-piece-in-Items.ensures
          ∙ (λ k. piece_bytes (sym w.piece-is k) ∷ sym w.self-is k)
      | in-Entries+in_ok-piece-in-Entries w ↦
          old ∙ ap (λ p. part_pieces p ++ rest) w.in-Entries.is ∙ w.in_ok-piece-in-Entries.ensures
          ∙ (λ k. piece_bytes (sym w.piece-is k) ∷ sym w.self-is k)
    ]
