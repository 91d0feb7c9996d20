use Rattle.std.proofs.Common.{◌≡◌, ◌++◌, ◌∷◌, string_bytes}
use Rattle.template.specs.Config.{escaped_quotes}
use Rattle.template.proofs.config.make_quoted.Given as goal

abbrev pub invariant-loop-c : goal.invariant-loop-c
invariant-loop-c l = string_bytes l.made ++ escaped_quotes l.c-iterator.rest.now ≡ 34 ∷ escaped_quotes l.text
