-- Which values have a printed text.
use Rattle.std.proofs.Common.{◌≡◌, refl, ap}
use Rattle.std.specs.Prelude.{◌&&◌}
use Rattle.values.specs.Data.{Entries, no_entries, entry, entry_values}
use Rattle.values.specs.printing.Printed.{is_printable, are_printable, are_entries_printable}

pub are_printable-values : (es : Entries) → are_printable (entry_values es) ≡ are_entries_printable es
are_printable-values no_entries = refl
are_printable-values (entry k d es) = ap (λ b. is_printable d && b) (are_printable-values es)
