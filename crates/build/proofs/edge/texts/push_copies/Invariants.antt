use Rattle.std.proofs.Common.{◌≡◌, ◌++◌, take}
use Rattle.build.specs.edge.Texts.{texts}
use Rattle.build.proofs.edge.texts.push_copies.Given as goal

abbrev pub invariant-loop-string : goal.invariant-loop-string
invariant-loop-string l = texts l.to.items ≡ texts l.fn.to.items ++ texts (take l.string-index l.from)
