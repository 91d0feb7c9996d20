use Rattle.std.proofs.Common.{◌≡◌, ◌∷◌, ◌++◌, true, codes, sym, ap, ◌∙◌}
use Rattle.values.specs.Data.{keys_in, entry_values}
use Rattle.values.specs.View.{data_of, entries_of}
use Rattle.values.specs.printing.Pieces.{inside_pieces, entry_pieces}
use Rattle.values.proofs.PieceLemmas.{entries_of_both}
use Rattle.values.proofs.printing.pieces.Printer.open.Goals as goal

pub returns-in_ok-push-in-Dictionary : goal.returns-in_ok-push-in-Dictionary
returns-in_ok-push-in-Dictionary c =
    let es = c.in-Dictionary.dictionary.value in
    let vs = c.values-values.result.now in
    let both : entries_of c.keys-keys.result.now vs ≡ es =
    ap (λ ks. entries_of ks vs) (c.keys-keys.ensures ∙ ap keys_in c.deref-in-Dictionary.ensures)
    ∙ entries_of_both es vs (c.values-values.ensures.values ∙ ap entry_values c.deref-in-Dictionary-2.ensures) in
    ap (λ v. inside_pieces (data_of v) ++ c.args.self.now) c.in-Dictionary.is
    ∙ ap (λ e. codes "{" ∷ (entry_pieces true e ++ c.args.self.now)) (sym both)
    ∙ ap (λ x. codes "{" ∷ x) (sym c.in_ok-push-in-Dictionary.ensures)
