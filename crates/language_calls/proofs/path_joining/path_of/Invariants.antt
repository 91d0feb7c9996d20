use Rattle.std.proofs.Common.{◌≡◌, [], map, option_map, string_bytes, take}
use Rattle.std.specs.Prelude.{ok_or}
use Rattle.values.specs.Limits.{within_bytes}
use Rattle.values.specs.declared.refusal.OperationRefusal.TheVariants as refusals
use Rattle.language_calls.specs.JoinPaths.{path_of}
use Rattle.language_calls.proofs.path_joining.path_of.Given as goal

-- the path of those before
abbrev pub invariant-loop-text : goal.invariant-loop-text
invariant-loop-text l =
    ok_or (option_map string_bytes l.path) refusals.Limit ≡ within_bytes (path_of [] (take l.text-index (map (λ t. t.now) l.texts)))
