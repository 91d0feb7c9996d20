use Rattle.std.proofs.Common.{ℕ, List, ap}
use Rattle.meson.proofs.law.lists_what_it_looks_at.Goals as goal

pub returns : goal.returns
returns c =
    let notes = c.notes_what_it_looks_at.ensures in
    record {
      present = λ f s said. ap (λ (q : List (List ℕ) × List (List ℕ)). q.0) (notes.looks f s said);
      absent = λ f s said. ap (λ (q : List (List ℕ) × List (List ℕ)). q.1) (notes.looks f s said);
      files = notes.present;
    }
