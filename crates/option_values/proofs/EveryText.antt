-- What a text is written as: one list of words, or none.
use Rattle.std.proofs.Common.{◌≡◌, ℕ, List, Option, Some, None, refl, sym, ◌∙◌}
use Rattle.std.specs.Str.{chars}
use Rattle.option_values.specs.Laws.{IsCut, TextsAreCut}
use Rattle.option_values.specs.Words.{words_of}
use Rattle.option_values.proofs.Shell.{cut_written, written_cut}

none_is_some : (words : List (List ℕ)) → None ≡ Some words → ⊥
none_is_some words e = absurd cc

something : (text : List ℕ) (cut : Option (List (List ℕ))) → words_of text ≡ cut → IsCut text cut
something text (Some words) e = cut_written (chars text) words e
something text None e = λ words h. none_is_some words (sym e ∙ written_cut (chars text) words h)

none_by : (text : List ℕ) (cut : Option (List (List ℕ))) → words_of text ≡ cut → IsCut text None → cut ≡ None
none_by text (Some words) e h = absurd (h words (cut_written (chars text) words e))
none_by text None e h = refl

once : (text : List ℕ) (cut : Option (List (List ℕ))) → IsCut text cut → words_of text ≡ cut
once text (Some words) h = written_cut (chars text) words h
once text None h = none_by text (words_of text) refl h

pub texts_are_cut : TextsAreCut
texts_are_cut = record { something = λ text. something text (words_of text) refl; once = once }
