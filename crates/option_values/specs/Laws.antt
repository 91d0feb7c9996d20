-- States what holds of every text.
use Rattle.std.specs.Prelude.{◌≡◌, ℕ, List, Option, Some, None}
use Rattle.std.specs.Str.{chars}
use Rattle.option_values.specs.Shell.{AreWords}
use Rattle.option_values.specs.Words.{words_of}

-- Holds if a text is written as these words, or as no words.
abbrev pub IsCut : List ℕ → Option (List (List ℕ)) → Type 0
IsCut text (Some words) = AreWords (chars text) words
IsCut text None = (words : List (List ℕ)) → AreWords (chars text) words → ⊥

-- Each text is written as one list of words, or as none, which `words_of` returns.
pub record TextsAreCut : Type 0 where
  pub something : (text : List ℕ) → IsCut text (words_of text)
  pub once : (text : List ℕ) (cut : Option (List (List ℕ))) → IsCut text cut → words_of text ≡ cut
