use Rattle.std.proofs.Common.{◌≡◌, ◌++◌, ◌+◌, map, drop}
use Rattle.std.specs.Prelude.{flat_map}
use Rattle.arguments.specs.Misfits.{missing_keyword}
use Rattle.arguments.specs.RowView.{keyword_data}
use Rattle.arguments.specs.Arguments.{named_data}
use Rattle.arguments.proofs.reader.missing.Given as goal

-- what is left decides
abbrev pub invariant-loop-keywords : goal.invariant-loop-keywords
invariant-loop-keywords l = missing_keyword (flat_map (λ ks. map keyword_data ks.now) (drop l.keywords-index l.lists)) (map named_data l.named)
    ≡ missing_keyword (flat_map (λ ks. map keyword_data ks.now) l.lists) (map named_data l.named)

abbrev pub invariant-loop-keyword : goal.invariant-loop-keyword
invariant-loop-keyword l = missing_keyword (map keyword_data (drop l.keyword-index l.keyword-items)
    ++ flat_map (λ ks. map keyword_data ks.now) (drop (l.keywords-index + 1) l.lists)) (map named_data l.named)
    ≡ missing_keyword (flat_map (λ ks. map keyword_data ks.now) l.lists) (map named_data l.named)
