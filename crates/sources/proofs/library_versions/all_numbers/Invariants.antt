use Rattle.std.proofs.Common.{◌≡◌, map, drop}
use Rattle.std.specs.List.{list_all}
use Rattle.sources.specs.Versions.{is_number}
use Rattle.sources.proofs.library_versions.all_numbers.Given as goal

-- what is left decides
abbrev pub invariant-loop-part : goal.invariant-loop-part
invariant-loop-part l = list_all is_number (map (λ p. p.now) (drop l.part-index l.parts)) ≡ list_all is_number (map (λ p. p.now) l.parts)
