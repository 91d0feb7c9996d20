use Rattle.std.proofs.Common.{◌≡◌, map, take}
use Rattle.std.specs.Prelude.{flat_map}
use Rattle.arguments.specs.Arguments.{named_data}
use Rattle.values.specs.View.{data_of}
use Rattle.target_calls.specs.CustomTargets.{written_in}
use Rattle.target_calls.proofs.custom.list_written.Given as goal

abbrev pub invariant-loop-named : goal.invariant-loop-named
invariant-loop-named l =
    map (λ v. data_of v.now) l.values.items ≡ flat_map written_in (map named_data (take l.named-index l.arguments.named.items))
