use Rattle.std.proofs.Common.{◌≡◌, take, map, string_bytes}
use Rattle.machine_file.specs.Lookups.{check_key}
use Rattle.machine_file.proofs.question.check_key.Given as goal

abbrev pub invariant-loop-argument : goal.invariant-loop-argument
invariant-loop-argument l = string_bytes l.key ≡ check_key l.method (map (λ a. a.now) (take l.argument-index l.arguments))
