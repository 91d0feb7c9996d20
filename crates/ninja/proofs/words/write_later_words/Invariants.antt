use Rattle.std.proofs.Common.{take}
use Rattle.ports.specs.Endings.{Whole}
use Rattle.ports.specs.Outputs.{Writes}
use Rattle.ninja.specs.Steps.{later_words_steps}
use Rattle.ninja.proofs.words.write_later_words.Given as goal

abbrev pub invariant-loop-word : goal.invariant-loop-word
invariant-loop-word g l = Writes (g.O.Outputs.seen l.fn.out) (later_words_steps (take l.word-index l.words)) Whole (g.O.Outputs.seen l.out)
