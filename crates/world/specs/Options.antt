-- Reads the values of options.
use Rattle.std.specs.Prelude.{ℕ, List, [], Option, Some}
use Rattle.option_values.specs.Values as option
use Rattle.option_values.specs.Settings.{value_named, Setting}

-- Returns the text of an option's value, which is empty for any other type.
abbrev pub text_of : Option option.Value → List ℕ
text_of (Some (option.Text text)) = text
text_of _ = []

-- Returns the text of the option with this name. The text is empty if there is no such option, or if it has another type.
abbrev pub option_text : List Setting → List ℕ → List ℕ
option_text options name = text_of (value_named options name)
