-- Defines the names that the language gives a meaning to.
use Prim.Native.Char.{code}
use Rattle.std.specs.Prelude.{ℕ, List, [], ◌∷◌, Bool, false, not, ◌||◌, ◌&&◌, ◌==◌, codes, if◌then◌else◌}
use Rattle.std.specs.Char.{is_ascii_alphabetic, is_ascii_alphanumeric}
use Rattle.std.specs.List.{list_all}
use Rattle.std.specs.Str.{bytes_eq}
use Rattle.support.specs.Among.{is_among}
use Rattle.values.specs.Data.{Data, object}
use Rattle.values.specs.declared.object.Object.TheVariants as objects

-- Returns the predefined variables, which no definition file can assign.
abbrev pub predefined_names : List (List ℕ)
predefined_names = codes "meson" ∷ codes "host_machine" ∷ codes "build_machine" ∷ codes "target_machine" ∷ []

-- Holds if a name is a predefined variable.
abbrev pub is_predefined : List ℕ → Bool
is_predefined name = is_among predefined_names name

-- Returns the value of a predefined variable, which does not depend on the machine file. There is no cross compilation, so the three
-- machines are the same object.
abbrev pub predefined_value : List ℕ → Data
predefined_value name = if bytes_eq name (codes "meson") then object objects.Meson else object objects.Machine

-- Returns the keywords, which cannot be names.
abbrev pub keywords : List (List ℕ)
keywords = codes "true" ∷ codes "false" ∷ codes "if" ∷ codes "elif" ∷ codes "else" ∷ codes "endif" ∷ codes "and" ∷ codes "or" ∷ codes "not"
    ∷ codes "in" ∷ codes "foreach" ∷ codes "endforeach" ∷ codes "break" ∷ codes "continue" ∷ []

-- Holds if a byte may be in a name.
abbrev pub is_name_byte : ℕ → Bool
is_name_byte b = is_ascii_alphanumeric b || b == code "_"

-- Holds if a text begins like a name.
abbrev pub begins_name : List ℕ → Bool
begins_name [] = false
begins_name (b ∷ bs) = is_ascii_alphabetic b || b == code "_"

-- Holds if a text is a name: letters, digits and underscores, not beginning with a digit, and no keyword.
abbrev pub is_variable_name : List ℕ → Bool
is_variable_name text = begins_name text && (list_all is_name_byte text && not (is_among keywords text))

-- Returns the functions of Meson that are not supported.
abbrev pub left_out_names : List (List ℕ)
left_out_names =
    codes "add_global_arguments" ∷ codes "add_global_link_arguments" ∷ codes "add_languages" ∷ codes "add_test_setup"
    ∷ codes "alias_target" ∷ codes "benchmark" ∷ codes "both_libraries" ∷ codes "build_target" ∷ codes "debug" ∷ codes "environment"
    ∷ codes "generator" ∷ codes "import" ∷ codes "install_emptydir" ∷ codes "install_subdir" ∷ codes "install_symlink"
    ∷ codes "run_command" ∷ codes "run_target" ∷ codes "shared_module" ∷ codes "subproject" ∷ codes "summary" ∷ codes "vcs_tag" ∷ []

-- Holds if a name is a function of Meson that is not supported.
abbrev pub is_left_out : List ℕ → Bool
is_left_out name = is_among left_out_names name
