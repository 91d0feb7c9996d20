-- Defines texts that give the items of a list.
use Rattle.std.specs.Prelude.{ℕ, Bool, true, false, ◌==◌, List, [], ◌∷◌, map, Option, Some, None, if◌then◌else◌}
use Rattle.std.specs.List.{list_all, slice_split}
use Rattle.syntax.specs.lexer.Bytes.{comma, open_bracket}
use Rattle.machine_file.specs.declared.text.Blanks.TheVariants as blanks
use Rattle.support.specs.Among.{is_among}
use Rattle.machine_file.specs.Texts.{trimmed_text}
use Rattle.machine_file.specs.Values as machine
use Rattle.option_values.specs.Words.{words_of}

-- Returns whether each item is one of the choices, if there are choices.
abbrev pub are_among : Option (List (List ℕ)) → List (List ℕ) → Bool
are_among None items = true
are_among (Some choices) items = list_all (is_among choices) items

-- Returns a text without spaces at its ends. Other blanks stay.
abbrev pub without_spaces : List ℕ → List ℕ
without_spaces text = trimmed_text blanks.Spaces text

-- Returns the parts between commas, without spaces at their ends. An empty text has none.
abbrev pub parts_of : List ℕ → List (List ℕ)
parts_of [] = []
parts_of (b ∷ bs) = map without_spaces (slice_split (λ c. c == comma) (b ∷ bs))

-- Returns whether the first byte of the text is `[`. Such a text is read as a list literal.
abbrev pub begins_list : List ℕ → Bool
begins_list [] = false
begins_list (b ∷ bs) = b == open_bracket

-- Returns the items if there is a value and it is a list of texts, and none otherwise.
abbrev pub items_in : Option machine.Value → Option (List (List ℕ))
items_in (Some (machine.Texts items)) = Some items
items_in _ = None

-- Returns the items of a list literal of plain strings, as a machine file has it.
abbrev pub items_of_literal : List ℕ → Option (List (List ℕ))
items_of_literal text = items_in (machine.value_of text)

-- Returns the items of an array: a list literal, or parts between commas.
abbrev pub items_of : List ℕ → Option (List (List ℕ))
items_of text = if begins_list text then items_of_literal text else Some (parts_of text)

-- Returns the items of words: a list literal, or words.
abbrev pub word_items_of : List ℕ → Option (List (List ℕ))
word_items_of text = if begins_list text then items_of_literal text else words_of text
