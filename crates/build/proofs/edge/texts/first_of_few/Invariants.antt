use Rattle.std.proofs.Common.{◌≡◌, [], take}
use Rattle.build.specs.edge.Texts.{texts, put_all_new}
use Rattle.build.proofs.edge.texts.first_of_few.Given as goal

abbrev pub invariant-loop-text : goal.invariant-loop-text
invariant-loop-text l = texts l.kept.items ≡ put_all_new [] (texts (take l.text-index l.all))
