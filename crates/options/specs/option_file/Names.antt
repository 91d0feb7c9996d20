-- Defines the names of options.
use Rattle.std.specs.Prelude.{ℕ, Bool, ◌||◌, ◌&&◌, List, length, nat_lt, ◌==◌}
use Rattle.std.specs.List.{list_all}
use Rattle.syntax.specs.lexer.Bytes.{continues_word, minus}

-- Returns whether the byte is a letter, a digit, an underscore or a minus.
abbrev pub in_name : ℕ → Bool
in_name b = continues_word b || (b == minus)

-- Returns whether the text is at least one letter, digit, underscore or minus, and nothing else.
abbrev pub is_option_name : List ℕ → Bool
is_option_name text = nat_lt 0 (length text) && list_all in_name text
