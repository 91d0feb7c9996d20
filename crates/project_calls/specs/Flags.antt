-- Defines which flags compilers and linkers get from the options.
use Rattle.std.specs.Prelude.{ℕ, Bool, false, List, [], Option, Some, codes, bytes_eq, if◌then◌else◌}
use Rattle.option_values.specs.Values as value
use Rattle.option_values.specs.Settings.{value_named, Setting}
use Rattle.build.specs.Data.{FlagsData}

-- Returns the text of a string option or the choice of a combo option.
abbrev pub text_in : Option value.Value → List ℕ
text_in (Some (value.Text text)) = text
text_in (Some (value.Combo choice)) = choice
text_in _ = []

-- Returns the boolean of a boolean option, and false for any other.
abbrev pub is_set : Option value.Value → Bool
is_set (Some (value.Boolean boolean)) = boolean
is_set _ = false

-- Returns the items of an array option.
abbrev pub items_in : Option value.Value → List (List ℕ)
items_in (Some (value.Array items)) = items
items_in _ = []

-- Returns the number of a warning level.
abbrev pub level_of : List ℕ → ℕ
level_of text =
    if bytes_eq text (codes "1") then 1 else (if bytes_eq text (codes "2") then 2 else (if bytes_eq text (codes "3") then 3 else 0))

-- Returns the flags of the options. Each option has a value of its type; an absent option has no effect.
abbrev pub flags_in : List Setting → FlagsData
flags_in settings = record {
  warning_level = level_of (text_in (value_named settings (codes "warning_level")));
  is_werror = is_set (value_named settings (codes "werror"));
  c_std = text_in (value_named settings (codes "c_std"));
  optimization = text_in (value_named settings (codes "optimization"));
  is_debug = is_set (value_named settings (codes "debug"));
  c_args = items_in (value_named settings (codes "c_args"));
  c_link_args = items_in (value_named settings (codes "c_link_args"));
}
