-- Defines look-ups among declared options.
use Rattle.std.specs.Prelude.{ℕ, Bool, true, not, ◌||◌, ◌&&◌, List, [], ◌∷◌, ◌++◌, Option, Some, None, if◌then◌else◌, bytes_eq}
use Rattle.std.specs.List.{list_any}
use Rattle.option_values.specs.BuiltIns.{is_built_in}
use Rattle.options.specs.option_file.Declarations.{Declaration}

-- Returns whether one of these options has this name.
abbrev pub is_used : List ℕ → List Declaration → Bool
is_used name options = list_any (λ d. bytes_eq name d.name) options

-- Returns the option of this name.
abbrev pub option_named : List Declaration → List ℕ → Option Declaration
option_named [] name = None
option_named (d ∷ ds) name = if bytes_eq name d.name then Some d else option_named ds name

-- Returns whether the name is neither that of a built-in option nor one of these.
abbrev pub is_new : List ℕ → List Declaration → Bool
is_new name options = not (is_built_in name || is_used name options)

-- Returns whether each option has a new name, given the earlier ones.
abbrev pub are_new_after : List Declaration → List Declaration → Bool
are_new_after before [] = true
are_new_after before (d ∷ ds) = is_new d.name before && are_new_after (before ++ d ∷ []) ds

-- Returns whether all names differ, and none is that of a built-in option.
abbrev pub are_new : List Declaration → Bool
are_new options = are_new_after [] options
