use Rattle.std.proofs.Common.{◌≡◌, length, drop}
use Rattle.std.specs.Str.{chars}
use Rattle.option_values.specs.Words.{initial_cut, cut_from}
use Rattle.option_values.specs.WordsView.{cut_in}
use Rattle.option_values.proofs.words.words_of.Given as goal

abbrev pub invariant-loop-character : goal.invariant-loop-character
invariant-loop-character l = cut_from (cut_in l.cutting) (drop (length l.yielded) (chars l.text)) ≡ cut_from initial_cut (chars l.text)
