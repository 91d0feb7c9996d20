use Rattle.std.proofs.Common.{◌≡◌, map, drop, string_bytes}
use Rattle.resources.specs.Testing.{are_assignments}
use Rattle.resources.proofs.test_arguments.check_assignments.Given as goal

-- what is left decides
abbrev pub invariant-loop-text : goal.invariant-loop-text
invariant-loop-text l = are_assignments (map string_bytes (drop l.text-index l.texts)) ≡ are_assignments (map string_bytes l.texts)
