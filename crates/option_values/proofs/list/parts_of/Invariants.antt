use Rattle.std.proofs.Common.{◌≡◌, ◌++◌, drop, length, map}
use Rattle.std.specs.Prelude.{◌==◌}
use Rattle.std.specs.List.{slice_split}
use Rattle.syntax.specs.lexer.Bytes.{comma}
use Rattle.option_values.specs.Lists.{without_spaces}
use Rattle.option_values.specs.View.{strings_in}
use Rattle.option_values.proofs.list.parts_of.Given as goal

abbrev pub invariant-loop-part : goal.invariant-loop-part
invariant-loop-part l =
    strings_in l.parts.items ++ map without_spaces (drop (length l.yielded) (slice_split (λ c. c == comma) l.text))
    ≡ map without_spaces (slice_split (λ c. c == comma) l.text)
