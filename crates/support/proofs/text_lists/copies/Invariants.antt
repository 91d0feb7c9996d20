use Rattle.std.proofs.Common.{◌≡◌, take}
use Rattle.support.specs.Texts.{texts}
use Rattle.support.proofs.text_lists.copies.Given as goal

abbrev pub invariant-loop-string : goal.invariant-loop-string
invariant-loop-string l = texts l.copies.items ≡ texts (take l.string-index l.strings)
