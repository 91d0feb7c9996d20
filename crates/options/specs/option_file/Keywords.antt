-- Defines the keywords of a call of `option`, and what they give.
use Rattle.std.specs.Prelude.{ℕ, ℤ, Bool, List, [], ◌∷◌, Option, Some, None, codes, bytes_eq, if◌then◌else◌}
use Rattle.std.specs.Option.{option_map}
use Rattle.option_values.specs.Kinds as kinds
use Rattle.option_values.specs.Kinds.{Kind}
use Rattle.options.specs.declared.option_file.keyword.OptionKeyword.{OptionKeyword}
use Rattle.options.specs.declared.option_file.keyword.OptionKeyword.TheVariants as words
use Rattle.option_values.specs.declared.kind.OptionType.{OptionType}
use Rattle.option_values.specs.declared.kind.OptionType.TheVariants as types
use Rattle.option_values.specs.Types.{type_named}
use Rattle.options.specs.option_file.Given.{Given, Text, Integer, Texts}
use Rattle.support.specs.Among.{is_among}

-- The keywords of a call so far, each with the value that it gives. A type, choices and bounds already have the right form.
pub record Keywords : Type 0 where
  pub kind : Option OptionType
  pub value : Option Given
  pub choices : Option (List (List ℕ))
  pub least : Option ℤ
  pub greatest : Option ℤ

-- Returns the keywords of a call that has none.
abbrev pub nothing_given : Keywords
nothing_given = record { kind = None; value = None; choices = None; least = None; greatest = None }

-- Returns the keyword with this name. `description` and `yield` have no effect.
unfoldable pub keyword_named : List ℕ → Option OptionKeyword
keyword_named name =
    if bytes_eq name (codes "type") then Some words.Kind
    else (if bytes_eq name (codes "value") then Some words.Value
    else (if bytes_eq name (codes "choices") then Some words.Choices
    else (if bytes_eq name (codes "min") then Some words.Min
    else (if bytes_eq name (codes "max") then Some words.Max
    else (if bytes_eq name (codes "description") then Some words.NoEffect
    else (if bytes_eq name (codes "yield") then Some words.NoEffect
    else None))))))

-- Returns whether the keyword is left out.
abbrev pub is_left_out : List ℕ → Bool
is_left_out = is_among (codes "kwargs" ∷ codes "fallback" ∷ codes "deprecated" ∷ [])

-- Returns the type whose name is given as a text.
abbrev pub type_in : Given → Option OptionType
type_in (Text name) = type_named name
type_in _ = None

-- Returns the choices, which must be a list of texts.
abbrev pub choices_in : Given → Option (List (List ℕ))
choices_in (Texts items) = Some items
choices_in _ = None

-- Returns the bound, which must be an integer of 64 bits.
abbrev pub bound_in : Given → Option ℤ
bound_in (Integer n) = Some n
bound_in _ = None

-- Records one more keyword and what it gives, if the keyword may give this.
abbrev pub noted_keywords : Keywords → OptionKeyword → Given → Option Keywords
noted_keywords k words.Kind g = option_map (λ t. record k { kind = Some t }) (type_in g)
noted_keywords k words.Value g = Some (record k { value = Some g })
noted_keywords k words.Choices g = option_map (λ c. record k { choices = Some c }) (choices_in g)
noted_keywords k words.Min g = option_map (λ n. record k { least = Some n }) (bound_in g)
noted_keywords k words.Max g = option_map (λ n. record k { greatest = Some n }) (bound_in g)
noted_keywords k words.NoEffect g = Some k

-- Returns a combo of these choices, of which there must be one.
abbrev pub combo_of : Option (List (List ℕ)) → Option Kind
combo_of (Some (first ∷ others)) = Some (kinds.Combo (first ∷ others))
combo_of _ = None

-- Returns the kind of an integer, which needs a default.
abbrev pub integer_of : Option Given → Option ℤ → Option ℤ → Option Kind
integer_of (Some g) least greatest = Some (kinds.Integer least greatest)
integer_of None least greatest = None

-- Returns what an option of this type with these keywords takes.
abbrev pub kind_of_type : Keywords → OptionType → Option Kind
kind_of_type k types.Text = Some kinds.Text
kind_of_type k types.Boolean = Some kinds.Boolean
kind_of_type k types.Combo = combo_of k.choices
kind_of_type k types.Integer = integer_of k.value k.least k.greatest
kind_of_type k types.Array = Some (kinds.Array k.choices)
kind_of_type k types.Feature = Some kinds.Feature

-- Returns what an option with these keywords takes, if its type is given.
abbrev pub kind_with : Keywords → Option OptionType → Option Kind
kind_with k None = None
kind_with k (Some t) = kind_of_type k t

-- Returns what an option with these keywords takes, if no required keyword is missing.
abbrev pub kind_of : Keywords → Option Kind
kind_of k = kind_with k k.kind

-- Returns what an option with these keywords takes, and its default.
abbrev pub asked_by : Keywords → Option (Kind × Option Given)
asked_by k = option_map (λ kind. (kind, k.value)) (kind_of k)
