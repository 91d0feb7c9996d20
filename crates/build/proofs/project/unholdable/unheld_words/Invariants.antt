use Rattle.std.proofs.Common.{◌≡◌, drop}
use Rattle.build.specs.edge.Texts.{texts}
use Rattle.build.specs.project.Unheld.{unheld_words}
use Rattle.build.proofs.project.unholdable.unheld_words.Given as goal

-- what is left decides
abbrev pub invariant-loop-word : goal.invariant-loop-word
invariant-loop-word l = unheld_words (texts (drop l.word-index l.words)) ≡ unheld_words (texts l.words)
