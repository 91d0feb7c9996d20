use Rattle.std.proofs.Common.{◌≡◌, ◌++◌, map, take}
use Rattle.build.specs.edge.Texts.{texts}
use Rattle.build.proofs.edge.texts.push_all.Given as goal

abbrev pub invariant-loop-part : goal.invariant-loop-part
invariant-loop-part l = texts l.to.items ≡ texts l.fn.to.items ++ map (λ p. p.now) (take l.part-index l.parts)
