use Rattle.std.proofs.Common.{◌≡◌, map, drop}
use Rattle.std.specs.Prelude.{flat_map}
use Rattle.arguments.specs.Misfits.{keyword_misfit}
use Rattle.arguments.specs.RowView.{keyword_data}
use Rattle.arguments.specs.Arguments.{named_data}
use Rattle.arguments.proofs.reader.find_misnamed.Given as goal

-- what is left decides
abbrev pub invariant-loop-one : goal.invariant-loop-one
invariant-loop-one l = keyword_misfit (flat_map (λ ks. map keyword_data ks.now) l.lists) (map named_data (drop l.one-index l.named))
    ≡ keyword_misfit (flat_map (λ ks. map keyword_data ks.now) l.lists) (map named_data l.named)
