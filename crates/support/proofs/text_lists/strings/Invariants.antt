use Rattle.std.proofs.Common.{◌≡◌, map, take}
use Rattle.support.specs.Texts.{texts}
use Rattle.support.proofs.text_lists.strings.Given as goal

abbrev pub invariant-loop-part : goal.invariant-loop-part
invariant-loop-part l = texts l.strings.items ≡ map (λ p. p.now) (take l.part-index l.parts)
