-- Defines the state of cutting a text, without its place in memory.
use Rattle.std.specs.Prelude.{string_bytes}
use Rattle.option_values.specs.declared.words.Cutting.{Cutting}
use Rattle.option_values.specs.View.{strings_in}
use Rattle.option_values.specs.Words.{Cut}

-- Returns the state of cutting a text as plain data, with the words as bytes.
abbrev pub cut_in : Cutting → Cut
cut_in c = record { place = c.place; word = string_bytes c.word; words = strings_in c.words.items }
