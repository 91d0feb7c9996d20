use Rattle.std.proofs.Common.{◌≡◌, drop}
use Rattle.values.specs.language_names.Rows.{named_or}
use Rattle.values.proofs.language_names.rows.named.Given as goal

-- no row so far has the name
abbrev pub invariant-loop-row : goal.invariant-loop-row
invariant-loop-row g l = (other : _) → named_or l.rows l.name other ≡ named_or (drop l.row-index l.rows) l.name other
