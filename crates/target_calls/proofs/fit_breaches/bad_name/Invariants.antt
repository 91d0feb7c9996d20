use Rattle.std.proofs.Common.{◌≡◌, drop}
use Rattle.build.specs.edge.Texts.{texts}
use Rattle.target_calls.specs.FitBreaches.{bad_name}
use Rattle.target_calls.proofs.fit_breaches.bad_name.Given as goal

-- what is left decides
abbrev pub invariant-loop-name : goal.invariant-loop-name
invariant-loop-name l = bad_name (texts (drop l.name-index l.names)) ≡ bad_name (texts l.names)
