-- Defines in words what an option takes.
use Rattle.std.specs.Prelude.{ℕ, ℤ, List, [], ◌∷◌, ◌++◌, Option, Some, None, codes}
use Rattle.std.specs.Fmt.{signed_decimal}
use Rattle.option_values.specs.Given.{quoted_texts}
use Rattle.option_values.specs.Kinds.{Kind, Text, Boolean, Combo, Integer, Array, Words, Feature}

-- Returns the choices in single quotes.
abbrev pub choice_words : List (List ℕ) → List ℕ
choice_words [] = codes "nothing"
choice_words (choice ∷ choices) = quoted_texts [] (choice ∷ choices)

-- Returns ` from ` and the lower bound, or an empty text if there is no bound.
abbrev pub least_words : Option ℤ → List ℕ
least_words None = []
least_words (Some least) = codes " from " ++ signed_decimal least

-- Returns ` to ` and the upper bound, or an empty text if there is no bound.
abbrev pub greatest_words : Option ℤ → List ℕ
greatest_words None = []
greatest_words (Some greatest) = codes " to " ++ signed_decimal greatest

-- Returns the words for an array: `a list of` and its choices in single quotes, or `a list of texts` if any text may be an item.
abbrev pub array_words : Option (List (List ℕ)) → List ℕ
array_words None = codes "a list of texts"
array_words (Some choices) = codes "a list of " ++ choice_words choices

-- Returns what an option of this kind takes, with its choices and bounds.
abbrev pub kind_words : Kind → List ℕ
kind_words Text = codes "a text"
kind_words Boolean = codes "true or false"
kind_words (Combo choices) = codes "one of " ++ choice_words choices
kind_words (Integer least greatest) = codes "an integer" ++ (least_words least ++ greatest_words greatest)
kind_words (Array choices) = array_words choices
kind_words Words = codes "words as a shell splits them"
kind_words Feature = codes "enabled, disabled or auto"
