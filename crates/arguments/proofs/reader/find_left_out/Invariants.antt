use Rattle.std.proofs.Common.{◌≡◌, map, drop}
use Rattle.arguments.specs.Misfits.{left_out}
use Rattle.arguments.specs.Arguments.{named_data}
use Rattle.arguments.proofs.reader.find_left_out.Given as goal

-- what is left decides
abbrev pub invariant-loop-one : goal.invariant-loop-one
invariant-loop-one l = left_out (map (λ n. n.now) l.names) (map named_data (drop l.one-index l.named))
    ≡ left_out (map (λ n. n.now) l.names) (map named_data l.named)
